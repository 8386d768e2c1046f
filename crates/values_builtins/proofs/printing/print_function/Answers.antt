use Rattle.std.proofs.Common.{codes}
use Rattle.values_builtins.specs.TextBuffers.{text_so_far}
use Rattle.values_builtins.proofs.TextBufferLaws.{three_plainly}
use Rattle.values_builtins.proofs.printing.print_function.Goals as goal

pub returns : goal.returns
returns c = three_plainly c.args.steps.now c.tick.new.steps (text_so_far c.args.out.now) (text_so_far c.write.new.self) (text_so_far c.write-2.new.self) (text_so_far c.write-3.new.self) (codes "<function ") (c.args.name.now) (codes ">") c.in_ok-tick.ensures c.in_ok-write.ensures c.in_ok-write-2.ensures c.in_ok-write-3.ensures
