use Rattle.values_heap.specs.View.{store_of}
use Rattle.evaluator_calls.proofs.Freezes.{freezing_lowers}
use Rattle.evaluator_calls.proofs.freeze.freeze_one.Goals as goal

pub returns-clause-steps : goal.returns-clause-steps
returns-clause-steps c = freezing_lowers c.args.x (store_of c.args.heap.now) (store_of c.freeze_value.new.heap) c.freeze_value.result c.freeze_value.ensures
