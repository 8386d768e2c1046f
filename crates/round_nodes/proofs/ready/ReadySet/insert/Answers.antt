use Rattle.std.proofs.Common.{◌≡◌, inl, inr, IfSome, Option, subst}
use Rattle.std.specs.BTreeSet.{BTreeSet}
use Rattle.std.specs.declared.cmp.Ordering.TheVariants.{Less}
use Rattle.keys.specs.Keys.{key_cmp}
use Rattle.keys.specs.declared.key.Key.{Key}
use Rattle.node.specs.Edges.{IsAdded}
use Rattle.node.proofs.Joining.{set_added}
use Rattle.round_nodes.specs.Ready.{keys_of}
use Rattle.round_nodes.proofs.Least.{added_above, still_below}
use Rattle.round_nodes.proofs.ready.ReadySet.insert.Goals as goal

pub invariant_of-self-in-Greater : goal.invariant_of-self-in-Greater
invariant_of-self-in-Greater c =
    let added = set_added c.self.inside.rest c.insert.new.self c.args.key c.in_ok-insert-in-Greater.ensures.updates in
    still_below c.self.inside.next c.self.inside.rest.keys c.insert.new.self.keys c.self.invariant (λ n q k i. elim (added.from k i) [
      | inl o ↦ inl o
      | inr e ↦ inr (subst (λ x. key_cmp n x ≡ Less) e (subst (λ (o : Option Key). IfSome o (λ m. key_cmp m c.args.key ≡ Less)) q (c.compare_least.ensures.greater c.in-Greater.is)))
    ])

pub returns-in_ok-insert-in-Greater : goal.returns-in_ok-insert-in-Greater
returns-in_ok-insert-in-Greater c =
    subst (λ (s : BTreeSet Key). IsAdded s.keys (keys_of c.self.inside.next c.insert.new.self.keys) c.args.key) c.self.view_is
    (added_above c.self.inside.next c.args.key c.self.inside.rest.keys c.insert.new.self.keys (set_added c.self.inside.rest c.insert.new.self c.args.key c.in_ok-insert-in-Greater.ensures.updates))
