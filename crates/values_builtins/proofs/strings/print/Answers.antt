use Rattle.std.proofs.Common.{rules}
use Rattle.values_heap.specs.View.{store_of}
use Rattle.values_builtins.specs.TextBuffers.{text_so_far}
use Rattle.values_builtins.proofs.Reprs.{repr_long, repr_kept, long_kept, short_kept}
use Rattle.values_builtins.proofs.strings.print.Goals as goal

pub returns-then-long : goal.returns-then-long
returns-then-long c = repr_long (store_of c.args.heap.now) c.print.new.steps c.args.x (text_so_far c.new-out.result) (text_so_far c.print.new.out) c.new-out.ensures c.in_ok-print.ensures (long_kept c.print.new.out c.if-long.true)

pub returns-in_err-made : goal.returns-in_err-made
returns-in_err-made c = rw (repr_kept (store_of c.args.heap.now) c.print.new.steps c.args.x (text_so_far c.new-out.result) (text_so_far c.print.new.out) c.new-out.ensures c.in_ok-print.ensures c.print.new.out.bytes.items (short_kept c.print.new.out c.if-long.false)) (search rules)

pub returns : goal.returns
returns c = rw (repr_kept (store_of c.args.heap.now) c.print.new.steps c.args.x (text_so_far c.new-out.result) (text_so_far c.print.new.out) c.new-out.ensures c.in_ok-print.ensures c.print.new.out.bytes.items (short_kept c.print.new.out c.if-long.false)) c.in_ok-made.ensures
