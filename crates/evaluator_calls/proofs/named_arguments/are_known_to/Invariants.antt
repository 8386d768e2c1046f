use Rattle.std.proofs.Common.{◌≡◌, drop, map}
use Rattle.std.specs.Prelude.{zip}
use Rattle.evaluator_semantics.specs.Arguments.{are_parameters}
use Rattle.syntax_tree.specs.Statements.{param_of}
use Rattle.evaluator_calls.proofs.named_arguments.are_known_to.Given as goal

abbrev pub invariant-loop-i : goal.invariant-loop-i
invariant-loop-i l = are_parameters (zip (drop l.i l.names) (drop l.i l.values)) (map param_of l.def.params.items) ≡ are_parameters (zip l.names l.values) (map param_of l.def.params.items)
