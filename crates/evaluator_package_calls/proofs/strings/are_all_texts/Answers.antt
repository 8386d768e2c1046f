use Rattle.values_heap.specs.View.{store_of}
use Rattle.evaluator_package_calls.proofs.Steps.{tested_step, tested_halt}
use Rattle.evaluator_package_calls.proofs.strings.are_all_texts.Goals as goal

pub loop-i-preserved : goal.loop-i-preserved
loop-i-preserved c = tested_step c.args.xs.now (store_of c.args.heap.now) c.loop-i.i c.at.result c.at.ensures c.in-Ok.ensures c.loop-i.invariant

pub returns-in-Err : goal.returns-in-Err
returns-in-Err c = tested_halt c.args.xs.now (store_of c.args.heap.now) c.loop-i.i c.at.result c.in-Err.halt c.at.ensures c.in-Err.ensures c.loop-i.invariant
