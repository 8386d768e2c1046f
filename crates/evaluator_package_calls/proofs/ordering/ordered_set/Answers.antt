use Rattle.std.proofs.Common.{arith}
use Rattle.evaluator_package_calls.proofs.TextSets.{one_more}
use Rattle.evaluator_package_calls.proofs.ordering.ordered_set.Goals as goal

pub loop-i-preserved : goal.loop-i-preserved
loop-i-preserved c = record {
  within = omega arith;
  sorted = one_more c.args.texts.now c.loop-i.i c.index-texts-i.result c.in_ok-share.field-0 c.loop-i.set.keys _ (omega arith) c.loop-i.invariant.within c.index-texts-i.is c.in_ok-share.ensures c.loop-i.invariant.sorted c.in_ok-insert.ensures.keys;
}
