use Rattle.std.proofs.Common.{map}
use Rattle.values_semantics.specs.Comparing.{equal}
use Rattle.values_objects.specs.Standings.{object_in}
use Rattle.values_operators.proofs.Members.{any_same, any_differ, any_fault}
use Rattle.values_operators.proofs.membership.any_equal.Goals as goal

pub returns-in-Ok-true : goal.returns-in-Ok-true
returns-in-Ok-true c = any_same (equal c.args.left (map object_in c.args.objects.now)) c.args.x c.args.members.now c.loop-i.i c.loop-i.steps _ c.loop-i.invariant c.in-Some.y c.in-Some.ensures _ (rw c.in-Ok-true.field-0-test at c.in-Ok-true.ensures)

pub loop-i-preserved : goal.loop-i-preserved
loop-i-preserved c = any_differ (equal c.args.left (map object_in c.args.objects.now)) c.args.x c.args.members.now c.loop-i.i c.loop-i.steps _ c.loop-i.invariant c.in-Some.y c.in-Some.ensures _ (rw c.in-Ok-false.field-0-test at c.in-Ok-false.ensures)

pub returns-in-Err : goal.returns-in-Err
returns-in-Err c = any_fault (equal c.args.left (map object_in c.args.objects.now)) c.args.x c.args.members.now c.loop-i.i c.loop-i.steps _ c.loop-i.invariant c.in-Some.y c.in-Some.ensures c.in-Err.halt _ c.in-Err.ensures
