use Rattle.std.proofs.Common.{◌≡◌, ◌<◌, length, true, get_or, sym, ap, ◌∙◌, arith}
use Rattle.values_semantics.specs.Comparing.{same_text}
use Rattle.evaluator_state.specs.declared.state.Slot.{Slot}
use Rattle.evaluator_state.specs.Once.{names_in, differ}
use Rattle.evaluator_state.proofs.Distinct.{first_if_differ, at_any, known}
use Rattle.evaluator_state.proofs.places.is_at.Goals as goal

pub returns : goal.returns
returns c = λ e.
    let items = c.args.block.now.slots.items in
    let x = c.args.x.now in
    let i = c.args.place in
    let s = c.index.result.now in
    let lt : i < length items = omega (arith, c.if-place-len.false, c.len.ensures) in
    let there : same_text x (get_or items i s).name ≡ true = ap (λ (t : Slot). same_text x t.name) (sym c.index.ensures) ∙ sym c.is_same.ensures ∙ e in
    record {
      within = lt;
      before = first_if_differ x items i s lt (known c.args.block.now.once (differ (names_in items)) c.if-not-block.false c.args.block.now.distinct) there;
      here = λ d. at_any x items i s d lt there;
    }
