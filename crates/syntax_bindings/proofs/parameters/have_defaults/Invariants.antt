use Rattle.std.proofs.Common.{◌≡◌, drop, map}
use Rattle.std.specs.List.{list_all}
use Rattle.syntax_tree.specs.Requirements.{has_value}
use Rattle.syntax_tree.specs.Statements.{param_of}
use Rattle.syntax_bindings.proofs.parameters.have_defaults.Given as goal

abbrev pub invariant-loop-param : goal.invariant-loop-param
invariant-loop-param l = list_all (λ p. has_value p.default) (map param_of (drop l.param-index l.params)) ≡ list_all (λ p. has_value p.default) (map param_of l.params)
