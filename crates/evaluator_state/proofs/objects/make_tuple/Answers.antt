use Rattle.values_heap.specs.View.{store_of}
use Rattle.values_semantics.specs.Heap.{makes_tuple}
use Rattle.evaluator_semantics.proofs.HeapSteps.{d_tuple}
use Rattle.evaluator_state.proofs.HeapPieces.{fewer}
use Rattle.evaluator_state.proofs.objects.make_tuple.Goals as goal

pub returns-clause-steps : goal.returns-clause-steps
returns-clause-steps c = fewer (makes_tuple c.args.members.items) (store_of c.args.heap.now) (store_of c.make_tuple.new.self) c.make_tuple.result (d_tuple c.args.members.items) c.make_tuple.ensures
