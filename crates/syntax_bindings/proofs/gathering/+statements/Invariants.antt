use Rattle.std.proofs.Common.{drop}
use Rattle.syntax_tree.specs.Bindings.{suite_names, branches_names}
use Rattle.syntax_tree.specs.Statements.{stmts_of, branch_trees}
use Rattle.syntax_bindings.proofs.Finds.{Left}
use Rattle.syntax_bindings.proofs.gathering.+statements.Given as goal

abbrev pub invariant-find_suite-loop-stmt : goal.invariant-find_suite-loop-stmt
invariant-find_suite-loop-stmt l = Left l.fn.found (suite_names (stmts_of l.suite)) l.found (suite_names (stmts_of (drop l.stmt-index l.suite)))

abbrev pub invariant-find_branches-loop-branch : goal.invariant-find_branches-loop-branch
invariant-find_branches-loop-branch l = Left l.fn.found (branches_names (branch_trees l.branches)) l.found (branches_names (branch_trees (drop l.branch-index l.branches)))
