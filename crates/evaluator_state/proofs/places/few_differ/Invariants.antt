use Rattle.std.proofs.Common.{◌≡◌, take, true}
use Rattle.evaluator_state.specs.Once.{names_in, differ}
use Rattle.evaluator_state.proofs.places.few_differ.Given as goal

abbrev pub invariant-loop-i : goal.invariant-loop-i
invariant-loop-i l = differ (names_in (take l.i l.slots)) ≡ true
