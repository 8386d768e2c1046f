use Rattle.std.proofs.Common.{List, ℕ, ap, sym, subst, ◌∙◌}
use Rattle.std.specs.Prelude.{Option, position}
use Rattle.std.specs.Arc.{arc_value}
use Rattle.syntax_tree.specs.declared.def.Def.{Def}
use Rattle.values_semantics.specs.Comparing.{same_text}
use Rattle.evaluator_state.specs.Places.{FirstPlace}
use Rattle.evaluator_state.proofs.SparseNames.{first_place}
use Rattle.evaluator_state.proofs.sparse.SparseBlock.place.Goals as goal

pub returns-in-Some : goal.returns-in-Some
returns-in-Some c =
    let x = c.args.x.now in
    let names = (arc_value c.args.self.now.def).names.items in
    subst (λ (o : Option ℕ). FirstPlace (same_text x) names o) (sym (c.get_index_of.ensures.index ∙ ap (λ (l : List (List ℕ)). position (same_text x) l) ((arc_value c.args.self.now.def).listed c.in-Some.index (ap (λ (d : Def). d.index) (sym c.deref.ensures) ∙ c.in-Some.is)))) (first_place x names)
