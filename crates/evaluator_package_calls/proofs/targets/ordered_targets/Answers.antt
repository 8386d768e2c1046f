use Rattle.std.proofs.Common.{refl, arith}
use Rattle.evaluator_state.specs.View.{target_of}
use Rattle.evaluator_package_calls.proofs.TargetSets.{one_more}
use Rattle.evaluator_package_calls.proofs.targets.ordered_targets.Goals as goal

pub loop-i-preserved : goal.loop-i-preserved
loop-i-preserved c = record {
  within = omega arith;
  sorted = one_more c.args.targets.now c.loop-i.i c.index-targets-i.result (target_of c.index-targets-i.result) c.loop-i.set.keys _ (omega arith) c.loop-i.invariant.within c.index-targets-i.is refl c.loop-i.invariant.sorted c.in_ok-insert.ensures.keys;
}
