use Rattle.std.proofs.Common.{drop}
use Rattle.syntax_tree.specs.Bindings.{clause_names}
use Rattle.syntax_tree.specs.View.{clause_trees}
use Rattle.syntax_bindings.proofs.Finds.{Left}
use Rattle.syntax_bindings.proofs.gathering.find_clauses.Given as goal

abbrev pub invariant-loop-clause : goal.invariant-loop-clause
invariant-loop-clause l = Left l.fn.found (clause_names (clause_trees l.clauses)) l.found (clause_names (clause_trees (drop l.clause-index l.clauses)))
