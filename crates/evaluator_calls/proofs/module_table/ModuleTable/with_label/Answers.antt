use Rattle.std.proofs.Common.{ℕ, List, ap, ◌∙◌}
use Rattle.std.specs.Prelude.{position, Option}
use Rattle.values_semantics.specs.Comparing.{same_text}
use Rattle.values_modules.specs.Values.{Body}
use Rattle.evaluator_semantics.specs.Modules.{body_at}
use Rattle.evaluator_calls.specs.Once.{body_from}
use Rattle.evaluator_calls.proofs.ModuleTables.{at_label}
use Rattle.evaluator_calls.proofs.module_table.ModuleTable.with_label.Goals as goal

pub returns : goal.returns
returns c =
    let x = c.args.label.now in
    let modules = c.self.inside.modules.items in
    let place = c.get_index_of.result in
    c.module_from.ensures
    ∙ ap (λ (l : List Body). body_from l place) c.as_slice.ensures.value
    ∙ ap (λ (o : Option ℕ). body_from modules o) (c.get_index_of.ensures.index ∙ ap (λ (l : List (List ℕ)). position (same_text x) l) c.self.invariant)
    ∙ at_label x modules
    ∙ ap (λ (l : List Body). body_at x l) c.self.view_is
