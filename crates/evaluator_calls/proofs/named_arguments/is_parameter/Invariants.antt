use Rattle.std.proofs.Common.{◌≡◌, drop, map}
use Rattle.evaluator_semantics.specs.Arguments.{is_parameter}
use Rattle.syntax_tree.specs.Statements.{param_of}
use Rattle.evaluator_calls.proofs.named_arguments.is_parameter.Given as goal

abbrev pub invariant-loop-param : goal.invariant-loop-param
invariant-loop-param l = is_parameter l.x (map param_of (drop l.param-index l.params)) ≡ is_parameter l.x (map param_of l.params)
