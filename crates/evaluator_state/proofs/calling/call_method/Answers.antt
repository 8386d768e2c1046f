use Rattle.std.proofs.Common.{Ok}
use Rattle.values_heap.specs.View.{store_of}
use Rattle.values_semantics.specs.Methods.{method}
use Rattle.evaluator_semantics.proofs.MethodSteps.{method_down}
use Rattle.evaluator_state.proofs.HeapPieces.{fewer}
use Rattle.evaluator_state.proofs.calling.call_method.Goals as goal

pub returns-clause-steps : goal.returns-clause-steps
returns-clause-steps c = fewer (method c.args.x c.as_str.result.now c.positional_arguments.result.now c.as_slice.result.now) (store_of c.args.heap.now) (store_of c.method.new.heap) c.method.result (method_down c.args.x c.as_str.result.now c.positional_arguments.result.now c.as_slice.result.now) c.method.ensures
