use Rattle.std.proofs.Common.{sym, ap, ◌∙◌}
use Rattle.values_semantics.specs.Builtins.{plain_functions, package_functions}
use Rattle.evaluator_semantics.specs.Names.{first_named, or_else}
use Rattle.evaluator_state.proofs.Searches.{first_append}
use Rattle.evaluator_state.proofs.universal.universal.Goals as goal

pub returns-in-Some : goal.returns-in-Some
returns-in-Some c = rw c.in-Build.is (sym (first_append c.args.x.now plain_functions package_functions ∙ ap (λ o. or_else o (first_named c.args.x.now package_functions)) (sym c.plain_function.ensures ∙ c.in-Some.is)))

pub returns-in-None : goal.returns-in-None
returns-in-None c = rw c.in-Build.is (c.package_function.ensures ∙ sym (first_append c.args.x.now plain_functions package_functions ∙ ap (λ o. or_else o (first_named c.args.x.now package_functions)) (sym c.plain_function.ensures ∙ c.in-None.is)))
