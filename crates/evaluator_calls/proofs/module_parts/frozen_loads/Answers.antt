use Rattle.std.proofs.Common.{◌++◌, List, ap, sym, ◌∙◌, arith}
use Rattle.std.proofs.lemmas.List.{append-nil}
use Rattle.values_modules.specs.Values.{Frozen}
use Rattle.evaluator_calls.proofs.Each.{loads_over}
use Rattle.evaluator_calls.proofs.module_parts.frozen_loads.Goals as goal

pub returns : goal.returns
returns c = sym (append-nil c.loop-i.all.items) ∙ ap (λ (l : List Frozen). c.loop-i.all.items ++ l) (sym (loads_over c.loop-i.i c.args.loads.now c.args.modules.now (omega arith))) ∙ c.loop-i.invariant
