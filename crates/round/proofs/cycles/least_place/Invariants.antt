use Rattle.std.proofs.Common.{◌<◌, length, take}
use Rattle.round.proofs.Rotations.{IsBest}
use Rattle.round.proofs.cycles.least_place.Given as goal

abbrev pub invariant-loop-at : goal.invariant-loop-at
invariant-loop-at l = record {
  best : IsBest (take l.at l.labels) l.best;
  below : l.best < length l.labels;
}
