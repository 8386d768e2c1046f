use Rattle.std.proofs.Common.{refl}
use Rattle.node.specs.Graphs.{record_at}
use Rattle.round.proofs.NoOpenNodes.{taken_same}
use Rattle.round.proofs.Stalling.{none_taken, empty_has}
use Rattle.round.proofs.closing.close_all.Goals as goal

pub nodes-init : goal.nodes-init
nodes-init c = record {
  descends = c.in_ok-put_least_last.ensures.descends;
  taken = λ holds. taken_same (record_at c.args.graph.now) c.args.graph.now.version c.args.table.now c.args.table.now _ _ c.put_least_last.ensures.same refl
      (none_taken (record_at c.args.graph.now) c.args.graph.now.version c.args.table.now _ c.new.ensures.items (λ k. empty_has c.new-2.result c.new-2.ensures.empty k));
}

pub nodes-preserved : goal.nodes-preserved
nodes-preserved c = record { descends = c.in-Ok-true.ensures.descends; taken = λ holds. c.in-Ok-true.ensures.taken c.args.table.now holds (c.nodes.invariant.taken holds) }

pub returns-in-Ok-false-clause-taken : goal.returns-in-Ok-false-clause-taken
returns-in-Ok-false-clause-taken c = λ holds. c.in-Ok-false.ensures.taken c.args.table.now holds (c.nodes.invariant.taken holds)
