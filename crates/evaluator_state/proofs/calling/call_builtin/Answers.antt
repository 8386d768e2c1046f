use Rattle.std.proofs.Common.{Ok}
use Rattle.values_heap.specs.View.{store_of}
use Rattle.values_semantics.specs.Functions.{builtin}
use Rattle.evaluator_semantics.proofs.CallSteps.{builtin_down}
use Rattle.evaluator_state.proofs.HeapPieces.{fewer}
use Rattle.evaluator_state.proofs.calling.call_builtin.Goals as goal

pub returns-clause-steps : goal.returns-clause-steps
returns-clause-steps c = fewer (builtin c.args.f c.positional_arguments.result.now c.as_slice.result.now) (store_of c.args.heap.now) (store_of c.builtin.new.heap) c.builtin.result (builtin_down c.args.f c.positional_arguments.result.now c.as_slice.result.now) c.builtin.ensures
