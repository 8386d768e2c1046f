use Rattle.std.proofs.Common.{inl, subst}
use Rattle.std.specs.BTreeSet.{BTreeSet}
use Rattle.keys.specs.declared.key.Key.{Key}
use Rattle.node.specs.Edges.{IsRemoved}
use Rattle.node.proofs.Joining.{set_removed}
use Rattle.round_nodes.specs.Ready.{keys_of}
use Rattle.round_nodes.proofs.Least.{removed_above, removed_first, still_below}
use Rattle.round_nodes.proofs.ready.ReadySet.remove.Goals as goal
use Rattle.round_nodes.proofs.ready.ReadySet.remove.Goals.{in-Some-1, in-None-1}

pub invariant_of-self-else-is_next : goal.invariant_of-self-else-is_next
invariant_of-self-else-is_next c =
    let removed = set_removed c.self.inside.rest c.remove-was_there.new.self c.args.key.now c.remove-was_there.ensures.updates in
    still_below c.self.inside.next c.self.inside.rest.keys c.remove-was_there.new.self.keys c.self.invariant (λ n q k i. inl (removed.from k i))

pub returns-then-is_next : goal.returns-then-is_next
returns-then-is_next c =
    let gone = subst (λ (s : BTreeSet Key). IsRemoved s.keys c.self.inside.rest.keys c.args.key.now) c.self.view_is
    (removed_first c.self.inside.next c.args.key.now c.self.inside.rest.keys (c.is_next.ensures.yes c.if-is_next.true) c.self.invariant) in
    elim c.match-self.branch [ in-Some-1 w ↦ rw w.self-is gone | in-None-1 w ↦ rw w.self-is gone ]

pub returns-else-is_next : goal.returns-else-is_next
returns-else-is_next c =
    subst (λ (s : BTreeSet Key). IsRemoved s.keys (keys_of c.self.inside.next c.remove-was_there.new.self.keys) c.args.key.now) c.self.view_is
    (removed_above c.self.inside.next c.args.key.now c.self.inside.rest.keys c.remove-was_there.new.self.keys (c.is_next.ensures.no c.if-is_next.false) (set_removed c.self.inside.rest c.remove-was_there.new.self c.args.key.now c.remove-was_there.ensures.updates))
