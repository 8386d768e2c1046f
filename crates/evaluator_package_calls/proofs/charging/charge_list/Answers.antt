use Rattle.std.proofs.Common.{◌∙◌}
use Rattle.values_heap.specs.View.{store_of}
use Rattle.evaluator_package_calls.proofs.Copies.{member_more}
use Rattle.evaluator_package_calls.proofs.charging.charge_list.Goals as goal

pub loop-i-preserved : goal.loop-i-preserved
loop-i-preserved c = record {
  same = c.in_ok-charge_member.ensures.same ∙ c.loop-i.invariant.same;
  charged = member_more c.args.prefix (store_of c.args.heap.now) c.args.place c.loop-i.i c.args.heap.now.held c.loop-i.heap.held _ (store_of c.loop-i.heap) c.loop-i.invariant.same c.loop-i.invariant.charged c.in_ok-charge_member.ensures.charged;
}
