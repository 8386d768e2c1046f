use Rattle.std.proofs.Common.{◌≡◌, drop, map}
use Rattle.evaluator_semantics.specs.Arguments.{parameter_block}
use Rattle.syntax_tree.specs.Statements.{param_of}
use Rattle.evaluator_state.specs.View.{block_of}
use Rattle.evaluator_calls.proofs.Accepts.{before}
use Rattle.evaluator_calls.proofs.accepting.bind_parameters.Given as goal

abbrev pub invariant-loop-param : goal.invariant-loop-param
invariant-loop-param l = before (block_of l.block) (parameter_block (map param_of (drop l.param-index l.params)) l.left l.named l.others) ≡ parameter_block (map param_of l.params) l.plain l.named l.defaults
