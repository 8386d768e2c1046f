-- How the count of turns grows.
use Rattle.std.specs.Prelude.{◌≡◌, ℕ, ◌+◌, ◌≤◌, List}
use Rattle.std.specs.declared.alloc.Global.{Global}
use Rattle.std.specs.declared.vec.Vec.{Vec}
use Rattle.round_nodes.specs.TurnCounts.{turns_of}
use Rattle.round_nodes.specs.declared.run.Run.{Run}
use Rattle.round.specs.declared.choice.Choice.{Choice}
use Rattle.round.specs.declared.choice.Replayed.{Replayed}
use Rattle.round.specs.Replays.{turns_told}

-- the count grew by at most this many turns
abbrev pub GrowsWithin : ℕ → ℕ → ℕ → Type 0
GrowsWithin most old new = (old ≤ new) × (new ≤ old + most)

-- the count grew by the turns of the runs
abbrev pub CountsRuns : ℕ → ℕ → Vec Run Global → Type 0
CountsRuns old new runs = new ≡ old + turns_of runs.items

-- the count grew by the turns that the choices which were read hand out
abbrev pub CountsRead : List Choice → ℕ → ℕ → Replayed → Type 0
CountsRead choices old new told = new ≡ old + turns_told choices told
