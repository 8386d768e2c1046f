use Rattle.std.proofs.Common.{take}
use Rattle.round.proofs.Rounding.{NoneSoFar}
use Rattle.round.proofs.rounds.any_open.Given as goal

abbrev pub invariant-loop-key : goal.invariant-loop-key
invariant-loop-key l = NoneSoFar l.nodes (take l.key-index l.keys)
