use Rattle.std.proofs.Common.{subst}
use Rattle.node.specs.Graphs.{record_at}
use Rattle.round_nodes.specs.Members.{HasCycle}
use Rattle.round.proofs.Looking.{none_missing}
use Rattle.round.proofs.visiting.look_in.Goals as goal

pub returns-then-has_cycle : goal.returns-then-has_cycle
returns-then-has_cycle c =
    let records = record_at c.args.graph.now in
    let cycle = subst (HasCycle records c.args.group.now) c.if-has_cycle.true c.in_ok-missing.ensures.cycle in record {
      settled = none_missing records c.args.group.now c.in_ok-missing.missing c.in_ok-missing.ensures.missing c.is_empty.result c.is_empty.ensures c.if-not-is_empty.false;
      stop = (cycle.0, cycle.1, cycle.3);
    }
