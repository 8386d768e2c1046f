use Rattle.std.proofs.Common.{rules, ◌≡◌, length, arith, sym}
use Rattle.values_builtins.specs.Results.{lists_of}
use Rattle.values_builtins.proofs.Rows.{rows_begin, rows_end, rows_go, rows_stop, unmade}
use Rattle.values_builtins.proofs.zipping.make_rows.Goals as goal

pub loop-i-init : goal.loop-i-init
loop-i-init c =
    let n : c.len-i-end.result ≡ length c.in-Some.shown.now.items = search rules in
    rw (c.new-tuples.ensures.items, n, rows_begin c.args.lists.now c.in-Some.shown.now (sym c.in-Some.ensures.value)) (unmade _)

pub returns-in_default-2 : goal.returns-in_default-2
returns-in_default-2 c = rows_end (lists_of c.args.lists.now) c.len-i-end.result c.loop-i.i c.loop-i.tuples.items _ _ c.loop-i.invariant (sym (rw c.in_default-2.is at c.in_ok-row.ensures))

pub returns-in-Err : goal.returns-in-Err
returns-in-Err c = rows_stop (lists_of c.args.lists.now) c.len-i-end.result c.loop-i.i c.loop-i.tuples.items _ _ c.loop-i.invariant (omega arith) c.in-Some-2.row.items (sym (rw c.in-Some-2.is at c.in_ok-row.ensures)) c.in-Err.halt _ c.in-Err.ensures

pub loop-i-preserved : goal.loop-i-preserved
loop-i-preserved c = rows_go (lists_of c.args.lists.now) c.len-i-end.result c.loop-i.i c.loop-i.tuples.items _ _ c.loop-i.invariant (omega arith) c.in-Some-2.row.items (sym (rw c.in-Some-2.is at c.in_ok-row.ensures)) c.in-Ok.tuple c.push.new.self.items _ c.in-Ok.ensures c.in_ok-push-in-Ok.ensures.items
