use Rattle.std.proofs.Common.{◌≡◌, take, true}
use Rattle.evaluator_state.specs.Once.{names_in, differ}
use Rattle.evaluator_state.proofs.places.index_of.Given as goal

abbrev pub invariant-loop-slot : goal.invariant-loop-slot
invariant-loop-slot l = (l.index.keys ≡ names_in (take l.slot-index l.slots)) × (differ (names_in (take l.slot-index l.slots)) ≡ true)
