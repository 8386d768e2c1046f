use Rattle.values_heap.specs.View.{store_of}
use Rattle.values_semantics.specs.Indexing.{set_index}
use Rattle.evaluator_semantics.proofs.HeapSteps.{set_index_down}
use Rattle.evaluator_state.proofs.HeapPieces.{fewer}
use Rattle.evaluator_state.proofs.objects.set_index.Goals as goal

pub returns-clause-steps : goal.returns-clause-steps
returns-clause-steps c = fewer (set_index c.args.a c.args.i c.args.x) (store_of c.args.heap.now) (store_of c.set_index.new.heap) c.set_index.result (set_index_down c.args.a c.args.i c.args.x) c.set_index.ensures
