use Rattle.std.proofs.Common.{rules, ◌≡◌, ◌∷◌, ℕ, List, sym, ap, ◌∙◌}
use Rattle.std.specs.Arc.{arc_value}
use Rattle.values_semantics.specs.declared.val.Val.{Val}
use Rattle.evaluator_semantics.specs.World.{Names, ended}
use Rattle.evaluator_semantics.specs.Names.{change_names}
use Rattle.evaluator_state.specs.View.{world_of}
use Rattle.evaluator_calls.proofs.defaults.keep_defaults.Goals as goal

pub returns-clause-says : goal.returns-clause-says
returns-clause-says c = λ here.
    let w = world_of c.args.state.now in
    let function = c.in_ok-function.function in
    let with : List ℕ → List Val → List Names = λ y l. change_names c.args.label.now (λ f. record f { defaults = (y, l) ∷ f.defaults }) w.files in
    let shared : (arc_value c.in_ok-values.values).items ≡ c.args.values.items = search rules in
    ap (λ (fs : List Names). ended tt (record w { files = fs })) (sym (c.in_ok-add_defaults.ensures.added ∙ ap (λ l. with function l) shared ∙ ap (λ y. with y c.args.values.items) c.in_ok-function.ensures))
