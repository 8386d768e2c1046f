use Rattle.std.proofs.Common.{◌≡◌, true, cond, get_or, Some, ap, sym, ◌∙◌}
use Rattle.std.specs.Prelude.{slice_set}
use Rattle.evaluator_state.specs.declared.state.Slot.{Slot}
use Rattle.evaluator_state.specs.View.{slots_of}
use Rattle.evaluator_state.specs.Once.{differ}
use Rattle.evaluator_state.proofs.Searches.{bind_there}
use Rattle.evaluator_state.proofs.Distinct.{names_stay}
use Rattle.evaluator_state.proofs.blocks.bind_at.Goals as goal

pub returns-in-Some : goal.returns-in-Some
returns-in-Some c =
    let items = c.args.block.now.slots.items in
    let x = c.args.x.now in
    let i = c.args.place in
    let s = c.in-Some.slot.now in
    let first = c.requires in
    let here : s ≡ get_or items i s = c.in-Some.ensures.value in
    ap (λ (t : Slot). slots_of (slice_set items i (record { name = t.name; value = Some c.args.value }))) here ∙ sym (bind_there x c.args.value items i s first.within first.before (first.here s))

pub invariant_of-block-clause-distinct : goal.invariant_of-block-clause-distinct
invariant_of-block-clause-distinct c =
    let b = c.args.block.now in
    let s = c.in-Some.slot.now in
    ap (λ l. cond b.once (differ l) true) (names_stay b.slots.items c.args.place _ s (ap (λ (t : Slot). t.name) c.in-Some.ensures.value)) ∙ b.distinct

pub invariant_of-block-clause-listed : goal.invariant_of-block-clause-listed
invariant_of-block-clause-listed c =
    let b = c.args.block.now in
    let s = c.in-Some.slot.now in
    λ index is. b.listed index is ∙ sym (names_stay b.slots.items c.args.place _ s (ap (λ (t : Slot). t.name) c.in-Some.ensures.value))
