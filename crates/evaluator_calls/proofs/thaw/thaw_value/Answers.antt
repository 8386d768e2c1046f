use Rattle.values_heap.specs.View.{store_of}
use Rattle.evaluator_calls.proofs.Still.{steps_stay}
use Rattle.evaluator_calls.proofs.thaw.thaw_value.Goals as goal

pub returns-clause-steps : goal.returns-clause-steps
returns-clause-steps c = steps_stay c.args.f.now (store_of c.args.heap.now) (store_of c.thaw_value.new.heap) c.thaw_value.result c.thaw_value.ensures
