use Rattle.std.proofs.Common.{◌∙◌}
use Rattle.values_objects.proofs.Times.{longer}
use Rattle.values_objects.proofs.lists.add_times.Goals as goal

pub loop-i-preserved : goal.loop-i-preserved
loop-i-preserved g c = c.in_ok-extend_from_slice.ensures.items ∙ longer c.args.all.now.items c.args.a.now _ c.loop-i._i c.loop-i.invariant
