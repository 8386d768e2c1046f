use Rattle.std.proofs.Common.{take}
use Rattle.evaluator_state.specs.Places.{NoneSo, is_slot}
use Rattle.evaluator_state.proofs.places.first_place.Given as goal

abbrev pub invariant-loop-i : goal.invariant-loop-i
invariant-loop-i l = NoneSo (is_slot l.x) (take l.i l.slots)
