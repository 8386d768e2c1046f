use Rattle.std.proofs.Common.{Some, ap, sym, ◌∙◌}
use Rattle.std.specs.Arc.{arc_value}
use Rattle.evaluator_state.specs.Sparse.{value_at}
use Rattle.evaluator_state.proofs.SparseNames.{slot_first, slot_missing}
use Rattle.evaluator_state.proofs.sparse.SparseBlock.slot.Goals as goal

pub returns-in-Some : goal.returns-in-Some
returns-in-Some c = ap Some c.value.ensures ∙ sym (slot_first (value_at c.args.self.now) c.args.x.now (arc_value c.args.self.now.def).names.items c.in-Some.place c.in-Some.ensures)

pub returns-in-None : goal.returns-in-None
returns-in-None c = sym (slot_missing (value_at c.args.self.now) 0 c.args.x.now (arc_value c.args.self.now.def).names.items c.in-None.ensures)
