use Rattle.std.proofs.Common.{◌∙◌, inl, inr, sym, subst}
use Rattle.std.specs.BTreeSet.{BTreeSet}
use Rattle.engine_semantics.specs.Value.{In}
use Rattle.keys.specs.declared.key.Key.{Key}
use Rattle.node.proofs.Joining.{has_in, in_has}
use Rattle.round_nodes.proofs.Least.{in_keys, in_next, in_rest}
use Rattle.round_nodes.proofs.ready.ReadySet.contains.Goals as goal

pub returns-then-is_next : goal.returns-then-is_next
returns-then-is_next c = (
  λ t. subst (λ (s : BTreeSet Key). In c.args.key.now s.keys) c.self.view_is (in_next c.self.inside.next c.args.key.now c.self.inside.rest.keys (c.is_next.ensures.yes c.if-is_next.true)),
  λ i. c.if-is_next.true,
)

pub returns-else-is_next : goal.returns-else-is_next
returns-else-is_next c = (
  λ t. subst (λ (s : BTreeSet Key). In c.args.key.now s.keys) c.self.view_is (in_rest c.self.inside.next c.self.inside.rest.keys c.args.key.now (in_has c.self.inside.rest c.args.key.now (sym c.contains.ensures ∙ t))),
  λ i. elim (in_keys c.self.inside.next c.self.inside.rest.keys c.args.key.now (subst (λ (s : BTreeSet Key). In c.args.key.now s.keys) (sym c.self.view_is) i)) [
    | inl q ↦ absurd (c.is_next.ensures.no c.if-is_next.false q)
    | inr j ↦ c.contains.ensures ∙ has_in c.self.inside.rest c.args.key.now j
  ],
)
