use Rattle.std.proofs.Common.{List, ℕ, ap, sym, subst, ◌∙◌}
use Rattle.std.specs.Prelude.{Option, position}
use Rattle.values_semantics.specs.Comparing.{same_text}
use Rattle.evaluator_state.specs.Places.{FirstPlace, is_file}
use Rattle.evaluator_state.proofs.Labels.{first_label}
use Rattle.evaluator_state.proofs.files.place_of.Goals as goal

pub returns-in-Some : goal.returns-in-Some
returns-in-Some c =
    let files = c.args.files.now in
    let x = c.args.label.now in
    subst (λ (o : Option ℕ). FirstPlace (is_file x) files o) (sym (c.get_index_of.ensures.index ∙ ap (λ (l : List (List ℕ)). position (same_text x) l) (c.requires c.in-Some.labels c.in-Some.is))) (first_label x files)
