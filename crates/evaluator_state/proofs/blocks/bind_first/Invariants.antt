use Rattle.std.proofs.Common.{◌≡◌, take}
use Rattle.evaluator_state.specs.Places.{NoneSo, has_slot}
use Rattle.evaluator_state.proofs.blocks.bind_first.Given as goal

abbrev pub invariant-loop-i : goal.invariant-loop-i
invariant-loop-i l = (l.blocks.items ≡ l.initial.blocks.items) × NoneSo (has_slot l.x) (take l.i l.blocks.items)
