use Rattle.std.proofs.Common.{map}
use Rattle.values_semantics.specs.Comparing.{equal}
use Rattle.values_objects.specs.Standings.{object_in}
use Rattle.values_operators.proofs.Comparisons.{members_fault, entries_fault, entries_same}
use Rattle.values_operators.proofs.equality.+comparing.Goals as goal

pub equal_members-returns-in-Err : goal.equal_members-returns-in-Err
equal_members-returns-in-Err t c = members_fault (equal c.args.left (map object_in c.args.objects.now)) c.args.xs.now c.args.ys.now c.loop-i.i c.loop-i.steps _ c.in-Some.x c.in-Some-get.y c.loop-i.invariant c.in-Some.ensures c.in-Some-get.ensures c.in-Err.halt _ c.in-Err.ensures

pub equal_entries-returns-in-Err : goal.equal_entries-returns-in-Err
equal_entries-returns-in-Err t c = entries_fault (equal c.args.left (map object_in c.args.objects.now)) c.args.xs.now c.args.ys.now c.loop-i.i c.loop-i.steps _ c.in-Some.key.now c.in-Some.entry c.loop-i.invariant c.in-Some.ensures c.in-Err.halt _ c.in-Err.ensures

pub equal_entries-loop-i-preserved : goal.equal_entries-loop-i-preserved
equal_entries-loop-i-preserved t c = entries_same (equal c.args.left (map object_in c.args.objects.now)) c.args.xs.now c.args.ys.now c.loop-i.i c.loop-i.steps _ c.in-Some.key.now c.in-Some.entry c.loop-i.invariant c.in-Some.ensures _ (rw c.in-Ok-true.field-0-test at c.in-Ok-true.ensures)
