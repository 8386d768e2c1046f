use Rattle.std.proofs.Common.{◌≡◌, ◌+◌, drop}
use Rattle.round_nodes.specs.TurnCounts.{turns_of}
use Rattle.loader.proofs.turns.turns_left.Given as goal

abbrev pub invariant-loop-run : goal.invariant-loop-run
invariant-loop-run l = l.left + turns_of l.runs ≡ l.budget + turns_of (drop l.run-index l.runs)
