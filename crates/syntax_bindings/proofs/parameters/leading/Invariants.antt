use Rattle.std.proofs.Common.{◌≡◌, take, map, true, not}
use Rattle.std.specs.List.{list_all}
use Rattle.syntax_tree.specs.Requirements.{has_value}
use Rattle.syntax_tree.specs.Statements.{param_of}
use Rattle.syntax_bindings.proofs.parameters.leading.Given as goal

abbrev pub invariant-loop-i : goal.invariant-loop-i
invariant-loop-i l = list_all (λ p. not (has_value p.default)) (take l.i (map param_of l.params)) ≡ true
