use Rattle.std.proofs.Common.{◌≡◌, ◌++◌, drop}
use Rattle.syntax_bindings.specs.NameSets.{names_of_params}
use Rattle.syntax_bindings.proofs.names.names_of.Given as goal

abbrev pub invariant-loop-param : goal.invariant-loop-param
invariant-loop-param l = l.names.items ++ names_of_params (drop l.param-index l.params) ≡ names_of_params l.params
