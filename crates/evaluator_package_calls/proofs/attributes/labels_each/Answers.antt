use Rattle.values_heap.specs.View.{store_of}
use Rattle.evaluator_package_calls.proofs.Steps.{labels_step, labels_halt}
use Rattle.evaluator_package_calls.proofs.attributes.labels_each.Goals as goal

pub loop-i-preserved : goal.loop-i-preserved
loop-i-preserved c = labels_step c.args.members.now (store_of c.args.heap.now) c.loop-i.i c.at.result c.at.ensures c.args.package_name.now c.in-Ok.label c.loop-i.all.items _ c.in-Ok.ensures c.in_ok-push-in-Ok.ensures.items c.loop-i.invariant

pub returns-in-Err : goal.returns-in-Err
returns-in-Err c = labels_halt c.args.members.now (store_of c.args.heap.now) c.loop-i.i c.at.result c.at.ensures c.args.package_name.now c.in-Err.halt c.loop-i.all.items c.in-Err.ensures c.loop-i.invariant
