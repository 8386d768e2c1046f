use Rattle.values_heap.specs.View.{store_of}
use Rattle.values_semantics.specs.Indexing.{hash}
use Rattle.evaluator_semantics.proofs.HeapSteps.{hash_down}
use Rattle.evaluator_state.proofs.HeapPieces.{fewer}
use Rattle.evaluator_state.proofs.objects.hash.Goals as goal

pub returns-clause-steps : goal.returns-clause-steps
returns-clause-steps c = fewer (hash c.args.x) (store_of c.args.heap.now) (store_of c.hash.new.heap) c.hash.result (hash_down c.args.x) c.hash.ensures.says
