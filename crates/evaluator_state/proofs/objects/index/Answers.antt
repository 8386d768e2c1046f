use Rattle.values_heap.specs.View.{store_of}
use Rattle.values_semantics.specs.Indexing.{index}
use Rattle.evaluator_semantics.proofs.HeapSteps.{index_down}
use Rattle.evaluator_state.proofs.HeapPieces.{fewer}
use Rattle.evaluator_state.proofs.objects.index.Goals as goal

pub returns-clause-steps : goal.returns-clause-steps
returns-clause-steps c = fewer (index c.args.a c.args.i) (store_of c.args.heap.now) (store_of c.index.new.heap) c.index.result (index_down c.args.a c.args.i) c.index.ensures
