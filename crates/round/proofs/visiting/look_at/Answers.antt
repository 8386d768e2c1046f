use Rattle.std.proofs.Common.{inl, inr, subst, sym}
use Rattle.node.specs.Graphs.{record_at}
use Rattle.node.specs.Records.{items_of}
use Rattle.round.specs.Looks.{IsLastGroup}
use Rattle.round.proofs.Looking.{running_finds}
use Rattle.round.proofs.visiting.look_at.Goals as goal

pub returns-in-Checking : goal.returns-in-Checking
returns-in-Checking c = (c.in-Some.node.now, sym c.in-Some.ensures.value, c.in-Checking.is)

pub returns-in_ok-found-in-Running : goal.returns-in_ok-found-in-Running
returns-in_ok-found-in-Running c = running_finds (record_at c.args.graph.now) c.args.table.now c.args.key.now c.last_group.result.now
    (c.in-Some.node.now, sym c.in-Some.ensures.value, c.in-Running.is, subst (λ gs. IsLastGroup (items_of gs) c.last_group.result.now) c.as_slice.ensures.value c.last_group.ensures) c.in_ok-found-in-Running.found c.in_ok-found-in-Running.ensures

pub returns-in-Out : goal.returns-in-Out
returns-in-Out c = inl (inr (c.in-Some.node.now, sym c.in-Some.ensures.value, c.in-Out.is))
