use Rattle.std.proofs.Common.{ap, ◌∙◌}
use Rattle.node.specs.Records.{items_of}
use Rattle.node.proofs.Lists.{on_err}
use Rattle.node.proofs.Showing.{keeps_shown}
use Rattle.node.proofs.Storing.{ready_seen, stored_seen}
use Rattle.std.specs.Arc.{arc_value}
use Rattle.node.specs.Graphs.{GraphView, recorded}
use Rattle.node.proofs.Lawfulness.{record_keeps}
use Rattle.node.proofs.graph.Graph.record.Goals as goal

pub store-requires-clause-ready : goal.store-requires-clause-ready
store-requires-clause-ready c = ready_seen c.self.inside.records c.self.inside.version c.args.self.now c.self.view_is c.args.key (items_of c.args.groups.items) c.requires

pub returns-in_err-store-clause-refused : goal.returns-in_err-store-clause-refused
returns-in_err-store-clause-refused c = on_err c.from_residual.result (ap (λ records. record { version = c.self.inside.version; records = records }) (keeps_shown c.self.inside.records c.store.new.records c.in_err-store.ensures.err) ∙ c.self.view_is)

pub returns-clause-recorded : goal.returns-clause-recorded
returns-clause-recorded c =
    stored_seen c.self.inside.records c.self.inside.version c.args.self.now c.self.view_is c.store.new.records c.args.key _ (items_of c.args.groups.items) c.in_ok-store.ensures.ok

pub returns-clause-lawful : goal.returns-clause-lawful
returns-clause-lawful c =
    record_keeps c.args.self.now (recorded c.self.inside.version c.store.new.records) c.args.key (arc_value c.args.value) (items_of c.args.groups.items) (ap (λ (g : GraphView). g.version) c.self.view_is)
    (stored_seen c.self.inside.records c.self.inside.version c.args.self.now c.self.view_is c.store.new.records c.args.key _ (items_of c.args.groups.items) c.in_ok-store.ensures.ok) c.requires
