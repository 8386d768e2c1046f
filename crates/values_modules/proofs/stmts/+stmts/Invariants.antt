use Rattle.std.proofs.Common.{◌≡◌, drop}
use Rattle.syntax_tree.specs.Statements.{stmts_of, branch_trees}
use Rattle.values_modules.specs.Same.{same_suite, same_branches}
use Rattle.values_modules.proofs.stmts.+stmts.Given as goal

abbrev pub invariant-same_stmts-loop-i : goal.invariant-same_stmts-loop-i
invariant-same_stmts-loop-i l = same_suite (stmts_of (drop l.i l.xs)) (stmts_of (drop l.i l.ys)) ≡ same_suite (stmts_of l.xs) (stmts_of l.ys)

abbrev pub invariant-same_branches-loop-i : goal.invariant-same_branches-loop-i
invariant-same_branches-loop-i l = same_branches (branch_trees (drop l.i l.xs)) (branch_trees (drop l.i l.ys)) ≡ same_branches (branch_trees l.xs) (branch_trees l.ys)
