use Rattle.std.proofs.Common.{List, ℕ, ap, sym, subst, ◌∙◌}
use Rattle.std.specs.Prelude.{Option, position}
use Rattle.values_semantics.specs.Comparing.{same_text}
use Rattle.evaluator_state.specs.Places.{FirstPlace, is_slot}
use Rattle.evaluator_state.proofs.Distinct.{first_position}
use Rattle.evaluator_state.proofs.places.search.Goals as goal

pub returns-in-Some : goal.returns-in-Some
returns-in-Some c =
    let items = c.args.block.now.slots.items in
    let x = c.args.x.now in
    subst (λ (o : Option ℕ). FirstPlace (is_slot x) items o) (sym (c.get_index_of.ensures.index ∙ ap (λ (l : List (List ℕ)). position (same_text x) l) (c.args.block.now.listed c.in-Some.index c.in-Some.is))) (first_position x items)
