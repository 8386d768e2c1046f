use Rattle.std.proofs.Common.{ap}
use Rattle.node.specs.Graphs.{GraphView, recorded}
use Rattle.node.proofs.Lawfulness.{confirm_keeps}
use Rattle.node.specs.Records.{users_of}
use Rattle.node.proofs.Writing.{settled_linked, settled_sets, settled_asks, settled_keys, settled_lists}
use Rattle.node.proofs.Relating.{linked_kept}
use Rattle.node.proofs.graph.Graph.confirm.Goals as goal

pub invariant_of-self : goal.invariant_of-self
invariant_of-self c =
    let records = c.self.inside.records in
    let new = c.settle.new.records in
    let users = users_of records in
    linked_kept records new
    (settled_keys records new users c.args.key.now c.self.inside.version c.self.invariant.linked c.settle.ensures.updates c.args.self.now c.self.view_is c.requires.members c.requires.recorded)
    (settled_lists records new users c.args.key.now c.self.inside.version c.self.invariant.linked c.settle.ensures.updates c.args.self.now c.self.view_is c.requires.members c.requires.recorded)
    (settled_linked records new users c.args.key.now c.self.inside.version c.self.invariant.linked c.settle.ensures.updates c.args.self.now c.self.view_is c.requires.members c.requires.recorded)
    (settled_asks records new users c.args.key.now c.self.inside.version c.self.invariant.linked c.settle.ensures.updates c.args.self.now c.self.view_is c.requires.members c.requires.recorded c.self.invariant.asks)
    c.self.invariant

pub returns-clause-confirmed : goal.returns-clause-confirmed
returns-clause-confirmed c =
    settled_sets c.self.inside.records c.settle.new.records (users_of c.self.inside.records) c.args.key.now c.self.inside.version c.self.invariant.linked c.settle.ensures.updates
    c.args.self.now c.self.view_is c.requires.members

pub returns-clause-lawful : goal.returns-clause-lawful
returns-clause-lawful c = λ r h.
    confirm_keeps c.args.self.now (recorded c.self.inside.version c.settle.new.records) c.args.key.now r h (ap (λ (g : GraphView). g.version) c.self.view_is)
    (settled_sets c.self.inside.records c.settle.new.records (users_of c.self.inside.records) c.args.key.now c.self.inside.version c.self.invariant.linked c.settle.ensures.updates
    c.args.self.now c.self.view_is c.requires.members r h) c.requires.members
