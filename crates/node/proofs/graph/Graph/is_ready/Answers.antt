use Rattle.std.proofs.Common.{◌∙◌, ap}
use Rattle.std.proofs.lemmas.List.{drop_all}
use Rattle.node.specs.Graphs.{record_at}
use Rattle.node.specs.Records.{items_of}
use Rattle.node.specs.Writes.{are_ready}
use Rattle.node.proofs.Readying.{ready_members}
use Rattle.node.proofs.graph.Graph.is_ready.Goals as goal

pub returns-clause-ready : goal.returns-clause-ready
returns-clause-ready c = λ t. ready_members (record_at c.args.self.now) c.args.key.now (items_of c.args.groups.now)
    (c.loop-group.invariant ∙ ap (λ gs. are_ready (record_at c.args.self.now) c.args.key.now (items_of gs)) (drop_all c.loop-group.group-index c.args.groups.now c.loop-group-test.false))
