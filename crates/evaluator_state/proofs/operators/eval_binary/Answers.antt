use Rattle.values_heap.specs.View.{store_of}
use Rattle.values_semantics.specs.Binary.{binary}
use Rattle.evaluator_semantics.proofs.HeapSteps.{binary_down}
use Rattle.evaluator_state.proofs.HeapPieces.{fewer}
use Rattle.evaluator_state.proofs.operators.eval_binary.Goals as goal

pub returns-clause-steps : goal.returns-clause-steps
returns-clause-steps c = fewer (binary c.operator_of.result c.args.x c.args.y) (store_of c.args.heap.now) (store_of c.binary.new.heap) c.binary.result (binary_down c.operator_of.result c.args.x c.args.y) c.binary.ensures
