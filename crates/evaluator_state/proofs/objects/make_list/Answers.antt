use Rattle.values_heap.specs.View.{store_of}
use Rattle.values_semantics.specs.Heap.{makes_list}
use Rattle.evaluator_semantics.proofs.HeapSteps.{d_list}
use Rattle.evaluator_state.proofs.HeapPieces.{fewer}
use Rattle.evaluator_state.proofs.objects.make_list.Goals as goal

pub returns-clause-steps : goal.returns-clause-steps
returns-clause-steps c = fewer (makes_list c.args.members.items) (store_of c.args.heap.now) (store_of c.make_list.new.self) c.make_list.result (d_list c.args.members.items) c.make_list.ensures
