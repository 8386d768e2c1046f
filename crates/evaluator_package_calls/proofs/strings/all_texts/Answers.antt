use Rattle.values_heap.specs.View.{store_of}
use Rattle.evaluator_package_calls.proofs.Steps.{texts_step, texts_halt}
use Rattle.evaluator_package_calls.proofs.strings.all_texts.Goals as goal

pub loop-i-preserved : goal.loop-i-preserved
loop-i-preserved c = texts_step c.args.xs.now (store_of c.args.heap.now) c.loop-i.i c.at.result c.at.ensures c.in-Ok.text c.loop-i.all.items _ c.in-Ok.ensures c.in_ok-push-in-Ok.ensures.items c.loop-i.invariant

pub returns-in-Err : goal.returns-in-Err
returns-in-Err c = texts_halt c.args.xs.now (store_of c.args.heap.now) c.loop-i.i c.at.result c.at.ensures c.in-Err.halt c.loop-i.all.items c.in-Err.ensures c.loop-i.invariant
