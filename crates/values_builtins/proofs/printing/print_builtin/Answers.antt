use Rattle.std.proofs.Common.{codes, ap, ◌∙◌}
use Rattle.values_semantics.specs.Builtins.{builtin_name}
use Rattle.values_builtins.specs.TextBuffers.{text_so_far, more}
use Rattle.values_builtins.proofs.TextBufferLaws.{three_plainly}
use Rattle.values_builtins.proofs.printing.print_builtin.Goals as goal

pub returns : goal.returns
returns c = three_plainly c.args.steps.now c.tick.new.steps (text_so_far c.args.out.now) (text_so_far c.write.new.self) (text_so_far c.write-2.new.self) (text_so_far c.write-3.new.self) (codes "<built-in ") (builtin_name c.args.f) (codes ">") c.in_ok-tick.ensures c.in_ok-write.ensures (c.in_ok-write-2.ensures ∙ ap (more (text_so_far c.write.new.self)) (c.as_bytes.ensures.value ∙ c.name.ensures)) c.in_ok-write-3.ensures
