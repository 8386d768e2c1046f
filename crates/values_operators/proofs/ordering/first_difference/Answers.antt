use Rattle.std.proofs.Common.{map}
use Rattle.values_semantics.specs.Comparing.{equal}
use Rattle.values_objects.specs.Standings.{object_in}
use Rattle.values_operators.proofs.Comparisons.{parts_fault, parts_same}
use Rattle.values_operators.proofs.ordering.first_difference.Goals as goal

pub returns-in-Err : goal.returns-in-Err
returns-in-Err c = parts_fault (equal c.args.left (map object_in c.args.objects.now)) c.args.xs.now c.args.ys.now c.loop-i.i c.loop-i.steps _ c.in-Some.x c.in-Some-get.y c.loop-i.invariant c.in-Some.ensures c.in-Some-get.ensures c.in-Err.halt _ c.in-Err.ensures

pub loop-i-preserved : goal.loop-i-preserved
loop-i-preserved c = parts_same (equal c.args.left (map object_in c.args.objects.now)) c.args.xs.now c.args.ys.now c.loop-i.i c.loop-i.steps _ c.in-Some.x c.in-Some-get.y c.loop-i.invariant c.in-Some.ensures c.in-Some-get.ensures _ (rw c.in-Ok-true.field-0-test at c.in-Ok-true.ensures)
