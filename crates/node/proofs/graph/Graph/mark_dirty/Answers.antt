use Rattle.std.proofs.Common.{true, ◌+◌, ap}
use Rattle.node.specs.Graphs.{GraphView, recorded}
use Rattle.node.proofs.Collecting.{marking_linked, marking_marks, marks_asks, marks_lists}
use Rattle.node.specs.Records.{users_of}
use Rattle.node.proofs.Relating.{linked_kept}
use Rattle.node.proofs.Lawfulness.{touch_keeps}
use Rattle.node.proofs.graph.Graph.mark_dirty.Goals as goal

pub invariant_of-self : goal.invariant_of-self
invariant_of-self c =
    linked_kept c.self.inside.records c.set_all_dirty.new.records c.set_all_dirty.ensures.keys (marks_lists true c.self.inside.records c.set_all_dirty.new.records c.args.reached.now c.set_all_dirty.ensures.sets)
    (marking_linked (users_of c.self.inside.records) c.self.inside.records c.set_all_dirty.new.records c.set_all_dirty.ensures.keys c.self.inside.version c.args.self.now c.self.view_is c.self.invariant.linked c.args.reached.now c.set_all_dirty.ensures.sets
    c.requires.reached.0 c.requires.reached.1)
    (marks_asks true c.self.inside.records c.set_all_dirty.new.records c.args.reached.now c.set_all_dirty.ensures.keys c.set_all_dirty.ensures.sets c.self.invariant.asks) c.self.invariant

pub returns-clause-marks : goal.returns-clause-marks
returns-clause-marks c = λ paths r.
    marking_marks (users_of c.self.inside.records) c.self.inside.records c.set_all_dirty.new.records c.set_all_dirty.ensures.keys c.self.inside.version c.args.self.now c.self.view_is c.self.invariant.linked c.args.reached.now c.set_all_dirty.ensures.sets
    paths r (c.self.inside.version + 1)

pub returns-clause-lawful : goal.returns-clause-lawful
returns-clause-lawful c = λ paths r.
    touch_keeps c.args.self.now (recorded (c.self.inside.version + 1) c.set_all_dirty.new.records) paths (ap (λ (g : GraphView). g.version + 1) c.self.view_is)
    (marking_marks (users_of c.self.inside.records) c.self.inside.records c.set_all_dirty.new.records c.set_all_dirty.ensures.keys c.self.inside.version c.args.self.now c.self.view_is c.self.invariant.linked c.args.reached.now c.set_all_dirty.ensures.sets
    paths r (c.self.inside.version + 1))
