use Rattle.std.proofs.Common.{List, ℕ, ap, ◌∙◌}
use Rattle.std.specs.Prelude.{position}
use Rattle.values_semantics.specs.declared.val.Val.{Val}
use Rattle.values_semantics.specs.Comparing.{same_text}
use Rattle.evaluator_semantics.specs.Environment.{values_named}
use Rattle.evaluator_state.specs.declared.state.FunctionDefaults.{FunctionDefaults}
use Rattle.evaluator_state.specs.Newest.{values_at}
use Rattle.evaluator_state.proofs.Latest.{at_name}
use Rattle.evaluator_state.proofs.defaults.DefaultsTable.defaults_named.Goals as goal

pub returns-in-Some : goal.returns-in-Some
returns-in-Some c =
    let x = c.args.name.now in
    let kept = c.self.inside.kept.items in
    let place = c.get_index_of.result in
    let listed = c.self.invariant c.in-Some.names c.in-Some.is in
    c.values_at.ensures
    ∙ ap (λ (l : List FunctionDefaults). values_at l place) c.as_slice.ensures.value
    ∙ at_name x kept place listed.1 (c.get_index_of.ensures.index ∙ ap (λ (l : List (List ℕ)). position (same_text x) l) listed.0)
    ∙ ap (λ (l : List (List ℕ × List Val)). values_named x l) c.self.view_is
