-- What a visit of a node finds. `records` gives the graph's record of a key.
use Rattle.std.specs.Prelude.{◌≡◌, ◌⊎◌, List, [], Some, None}
use Rattle.engine_semantics.specs.Value.{In}
use Rattle.keys.specs.declared.key.Key.{Key}
use Rattle.round_nodes.specs.declared.table.Node.{Node}
use Rattle.round_nodes.specs.declared.table.Phase.TheVariants as phase
use Rattle.round_nodes.specs.Members.{IsMissing, plain_value}
use Rattle.round_nodes.specs.Nodes.{Records, IsClean, IsPlain, node_at}
use Rattle.round_nodes.specs.declared.table.OpenNodes.{OpenNodes}
use Rattle.round.specs.Looks.{IsChecking, IsRunningAt}
use Rattle.round.specs.declared.visiting.Look.{Look}
use Rattle.round.specs.declared.visiting.Look.TheVariants as look

-- all members are settled, and one of them as a cycle
pub record IsHeldBack (records : Records) (group : List Key) : Type 0 where
  pub settled : (j : Key) → In j group → IsClean records j
  pub stop : (j : Key) × In j group × (plain_value (records j) ≡ None)

-- what there is of the last group of a node that makes turns
abbrev pub FindsIn : Records → List Key → Look → Type 0
FindsIn records group (look.Checks at) = ⊥
FindsIn records group (look.Lacks missing) = IsMissing records group missing.items × (missing.items ≡ [] → ⊥)
FindsIn records group look.Answered = (j : Key) → In j group → IsPlain records j
FindsIn records group look.Rests = IsHeldBack records group

-- a node that makes turns, by its last group
pub record FindsRunning (records : Records) (table : OpenNodes) (k : Key) (found : Look) : Type 0 where
  pub group : List Key
  pub running : IsRunningAt table k group
  pub finds : FindsIn records group found

-- a key that is not open, or whose job is out
abbrev pub IsIdle : OpenNodes → Key → Type 0
IsIdle table k = (node_at table.nodes k ≡ None) ⊎ ((n : Node) × (node_at table.nodes k ≡ Some n) × (n.phase ≡ phase.Out))

-- what there is of a node: its record is checked, and this many groups have passed; or what its last group shows; or
-- nothing, where it is not open or its job is out
abbrev pub Finds : Records → OpenNodes → Key → Look → Type 0
Finds records table k (look.Checks at) = IsChecking table k at
Finds records table k (look.Lacks missing) = FindsRunning records table k (look.Lacks missing)
Finds records table k look.Answered = FindsRunning records table k look.Answered
Finds records table k look.Rests = IsIdle table k ⊎ FindsRunning records table k look.Rests
