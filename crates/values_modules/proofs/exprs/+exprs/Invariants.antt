use Rattle.std.proofs.Common.{◌≡◌, drop}
use Rattle.syntax_tree.specs.View.{trees_of, clause_trees}
use Rattle.values_modules.specs.Same.{same_exs, same_clauses}
use Rattle.values_modules.proofs.exprs.+exprs.Given as goal

abbrev pub invariant-same_exprs-loop-i : goal.invariant-same_exprs-loop-i
invariant-same_exprs-loop-i l = same_exs (trees_of (drop l.i l.xs)) (trees_of (drop l.i l.ys)) ≡ same_exs (trees_of l.xs) (trees_of l.ys)

abbrev pub invariant-same_clauses-loop-i : goal.invariant-same_clauses-loop-i
invariant-same_clauses-loop-i l = same_clauses (clause_trees (drop l.i l.xs)) (clause_trees (drop l.i l.ys)) ≡ same_clauses (clause_trees l.xs) (clause_trees l.ys)
