use Rattle.std.proofs.Common.{map}
use Rattle.syntax_tree.specs.Statements.{param_of}
use Rattle.evaluator_calls.specs.SparseCalls.{AllNamed}
use Rattle.evaluator_calls.proofs.sparse_calls.all_named.Given as goal

abbrev pub invariant-loop-i : goal.invariant-loop-i
invariant-loop-i l = AllNamed l.from l.i (map param_of l.params) l.named
