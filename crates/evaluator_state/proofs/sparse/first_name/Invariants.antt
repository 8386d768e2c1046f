use Rattle.std.proofs.Common.{take}
use Rattle.values_semantics.specs.Comparing.{same_text}
use Rattle.evaluator_state.specs.Places.{NoneSo}
use Rattle.evaluator_state.proofs.sparse.first_name.Given as goal

abbrev pub invariant-loop-i : goal.invariant-loop-i
invariant-loop-i l = NoneSo (same_text l.x) (take l.i l.names)
