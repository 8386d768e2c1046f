use Rattle.std.proofs.Common.{◌≡◌, take}
use Rattle.engine_semantics.specs.Value.{In}
use Rattle.keys.specs.Jobs.{Outcome}
use Rattle.round.proofs.play.place_of.Given as goal

abbrev pub invariant-loop-at : goal.invariant-loop-at
invariant-loop-at g l = (turn : Outcome) → In turn (take l.at l.turns) → turn.asked.key ≡ l.key → ⊥
