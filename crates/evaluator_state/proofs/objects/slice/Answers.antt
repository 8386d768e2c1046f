use Rattle.values_heap.specs.View.{store_of}
use Rattle.values_semantics.specs.Indexing.{slice}
use Rattle.evaluator_semantics.proofs.HeapSteps.{slice_down}
use Rattle.evaluator_state.proofs.HeapPieces.{fewer}
use Rattle.evaluator_state.proofs.objects.slice.Goals as goal

pub returns-clause-steps : goal.returns-clause-steps
returns-clause-steps c = fewer (slice c.args.a c.args.i c.args.j) (store_of c.args.heap.now) (store_of c.slice.new.heap) c.slice.result (slice_down c.args.a c.args.i c.args.j) c.slice.ensures
