use Rattle.std.proofs.Common.{◌≡◌, Some, ap, sym, ◌∙◌}
use Rattle.evaluator_semantics.specs.Names.{slot_in}
use Rattle.evaluator_state.specs.declared.state.Slot.{Slot}
use Rattle.evaluator_state.specs.View.{block_of}
use Rattle.evaluator_state.proofs.Searches.{slot_there, if_bound}
use Rattle.evaluator_state.proofs.blocks.value_at_last.Goals as goal

pub returns-then-is_at : goal.returns-then-is_at
returns-then-is_at c =
    let items = c.args.block.now.slots.items in
    let x = c.args.x.now in
    let first = c.is_at.ensures c.if-is_at.true in
    let s = c.index.result.now in
    let there : slot_in x (block_of c.args.block.now.slots) ≡ Some s.value = slot_there x items c.load-place.result s first.within first.before (first.here s) ∙ ap (λ (t : Slot). Some t.value) (sym c.index.ensures) in
    if_bound s.value (slot_in x (block_of c.args.block.now.slots)) there
