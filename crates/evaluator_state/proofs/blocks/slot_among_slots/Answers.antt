use Rattle.std.proofs.Common.{Some, ap, sym, ◌∙◌}
use Rattle.evaluator_state.specs.declared.state.Slot.{Slot}
use Rattle.evaluator_state.proofs.Searches.{slot_there, slot_none}
use Rattle.evaluator_state.proofs.blocks.slot_among_slots.Goals as goal

pub returns-in-Some : goal.returns-in-Some
returns-in-Some c =
    let items = c.args.block.now.slots.items in
    let first = c.in-Some.ensures in
    let s = c.index.result.now in
    ap (λ (t : Slot). Some t.value) c.index.ensures ∙ sym (slot_there c.args.x.now items c.in-Some.i s first.within first.before (first.here s))

pub returns-in-None : goal.returns-in-None
returns-in-None c = sym (slot_none c.args.x.now c.args.block.now.slots.items c.in-None.ensures)
