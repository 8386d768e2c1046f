use Rattle.std.proofs.Common.{◌≡◌, drop, map}
use Rattle.std.specs.Cmp.Lexicographic.{pointwise}
use Rattle.syntax_tree.specs.Statements.{param_of}
use Rattle.values_modules.specs.Same.{same_param}
use Rattle.values_modules.proofs.stmts.same_params.Given as goal

abbrev pub invariant-loop-i : goal.invariant-loop-i
invariant-loop-i l = pointwise same_param (map param_of (drop l.i l.xs)) (map param_of (drop l.i l.ys)) ≡ pointwise same_param (map param_of l.xs) (map param_of l.ys)
