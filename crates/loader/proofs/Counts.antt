-- How many turns hands have made.
use Rattle.std.proofs.Common.{◌≡◌, ◌+◌, List, [], ◌∷◌, ◌++◌, arith}
use Rattle.round_nodes.specs.TurnCounts.{turns_of}
use Rattle.round_nodes.specs.declared.run.Run.{Run}

pub turns_append : (runs more : List Run) → turns_of (runs ++ more) ≡ turns_of runs + turns_of more
turns_append [] more = omega arith
turns_append (run ∷ runs) more = let r = turns_append runs more in omega (arith, r)
