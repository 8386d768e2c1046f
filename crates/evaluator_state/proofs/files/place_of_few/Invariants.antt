use Rattle.std.proofs.Common.{take}
use Rattle.evaluator_state.specs.Places.{NoneSo, is_file}
use Rattle.evaluator_state.proofs.files.place_of_few.Given as goal

abbrev pub invariant-loop-i : goal.invariant-loop-i
invariant-loop-i l = NoneSo (is_file l.label) (take l.i l.files)
