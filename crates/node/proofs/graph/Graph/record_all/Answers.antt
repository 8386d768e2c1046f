use Rattle.std.proofs.Common.{ap, ◌∙◌}
use Rattle.node.proofs.Lists.{on_err}
use Rattle.node.proofs.Showing.{keeps_shown}
use Rattle.node.proofs.BatchResults.{ready_entries, all_seen}
use Rattle.node.specs.Graphs.{GraphView, recorded}
use Rattle.node.proofs.Lawfulness.{batch_keeps}
use Rattle.node.proofs.graph.Graph.record_all.Goals as goal

pub store_all-requires-clause-ready : goal.store_all-requires-clause-ready
store_all-requires-clause-ready c = ready_entries c.self.inside.records c.self.inside.version c.args.self.now c.self.view_is c.args.entries.items c.requires.ready

pub returns-in_err-store_all-clause-refused : goal.returns-in_err-store_all-clause-refused
returns-in_err-store_all-clause-refused c = on_err c.from_residual.result (ap (λ records. record { version = c.self.inside.version; records = records }) (keeps_shown c.self.inside.records c.store_all.new.records c.in_err-store_all.ensures.err) ∙ c.self.view_is)

pub returns-clause-recorded : goal.returns-clause-recorded
returns-clause-recorded c =
    all_seen c.self.inside.records c.self.inside.version c.args.self.now c.self.view_is c.args.entries.items c.store_all.new.records c.in_ok-store_all.ensures.ok

pub returns-clause-lawful : goal.returns-clause-lawful
returns-clause-lawful c =
    batch_keeps c.args.self.now (recorded c.self.inside.version c.store_all.new.records) c.args.entries.items (ap (λ (g : GraphView). g.version) c.self.view_is)
    (all_seen c.self.inside.records c.self.inside.version c.args.self.now c.self.view_is c.args.entries.items c.store_all.new.records c.in_ok-store_all.ensures.ok) c.requires.ready
