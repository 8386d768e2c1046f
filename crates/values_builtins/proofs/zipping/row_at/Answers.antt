use Rattle.std.proofs.Common.{arith, sym}
use Rattle.values_builtins.proofs.Rows.{row_goes, row_ends}
use Rattle.values_builtins.proofs.zipping.row_at.Goals as goal

pub returns-in-None : goal.returns-in-None
returns-in-None c = row_ends c.loop-list.row.items c.args.lists.now c.loop-list.list-index c.args.i c.list-item.result (omega arith) c.list-item.is _ c.loop-list.invariant (sym (rw c.as_slice.ensures.value at c.in-None.ensures))

pub loop-list-preserved : goal.loop-list-preserved
loop-list-preserved c = row_goes c.loop-list.row.items c.args.lists.now c.loop-list.list-index c.args.i c.list-item.result (omega arith) c.list-item.is _ c.loop-list.invariant c.in-Some.x c.push.new.self.items (sym (rw c.as_slice.ensures.value at c.in-Some.ensures)) c.in_ok-push-in-Some.ensures.items
