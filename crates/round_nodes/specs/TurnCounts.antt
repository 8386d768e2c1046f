-- How many turns were made.
use Rattle.std.specs.Prelude.{◌≡◌, ℕ, ◌+◌, List, [], ◌∷◌, length, Option, Some, None}
use Rattle.engine_semantics.specs.Value.{AllDiffer, In}
use Rattle.keys.specs.declared.key.Key.{Key}
use Rattle.round_nodes.specs.Nodes.{Nodes, node_at, IsOpen}
use Rattle.round_nodes.specs.declared.run.Run.{Run}
use Rattle.round_nodes.specs.declared.table.Node.{Node}
use Rattle.round_nodes.specs.declared.table.OpenNodes.{OpenNodes}

-- the turns of runs
abbrev pub turns_of : List Run → ℕ
turns_of [] = 0
turns_of (run ∷ runs) = run.turns + turns_of runs

-- an open node has made a turn for each group that it asked for
abbrev pub asked_by : Option Node → ℕ
asked_by None = 0
asked_by (Some n) = length n.groups.items

abbrev pub asked_at : Nodes → List Key → ℕ
asked_at nodes [] = 0
asked_at nodes (k ∷ keys) = asked_by (node_at nodes k) + asked_at nodes keys

-- this many turns were made: those of the runs, and those of the open nodes, each counted once
pub record HasMade (table : OpenNodes) (made : ℕ) : Type 0 where
  pub keys : List Key
  pub differ : AllDiffer keys
  pub each : (k : Key) → IsOpen table.nodes k → In k keys
  pub sum : made ≡ turns_of table.runs.items + asked_at table.nodes keys

-- whatever was made before, this many more turns were made
abbrev pub MakesMore : ℕ → OpenNodes → OpenNodes → Type 0
MakesMore more before after = (made : ℕ) → HasMade before made → HasMade after (made + more)

abbrev pub MakesNoTurn : OpenNodes → OpenNodes → Type 0
MakesNoTurn before after = (made : ℕ) → HasMade before made → HasMade after made
