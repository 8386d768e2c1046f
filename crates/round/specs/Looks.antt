-- What a visit of a node finds.
use Rattle.std.specs.Prelude.{◌≡◌, ◌⊎◌, ◌≤◌, ◌<◌, ◌+◌, ◌^◌, ℕ, length, List, [], ◌∷◌, ◌++◌, Option, Some, None}
use Rattle.engine_semantics.specs.Graph.{Record}
use Rattle.keys.specs.declared.key.Key.{Key}
use Rattle.keys.specs.declared.value.Value.{Value}
use Rattle.round_nodes.specs.declared.table.Phase.TheVariants as phase
use Rattle.node.specs.Graphs.{GraphView, record_at}
use Rattle.round_nodes.specs.Nodes.{node_at, groups_of, pending, IsCurrent}
use Rattle.round_nodes.specs.declared.table.Node.{Node}
use Rattle.round_nodes.specs.declared.table.OpenNodes.{OpenNodes}
use Rattle.round_nodes.specs.Members.{IsMissing}

-- an open node, and the members of its group that are not settled
pub record IsAwaiting (graph : GraphView) (table : OpenNodes) (k : Key) (missing : List Key) : Type 0 where
  pub node : Node
  pub there : node_at table.nodes k ≡ Some node
  pub group : List Key
  pub current : IsCurrent (record_at graph) k (groups_of node) node.phase group
  pub of_group : IsMissing (record_at graph) group missing

-- an open node whose record is checked, and all its groups are passed
pub record HasPassed (graph : GraphView) (table : OpenNodes) (k : Key) : Type 0 where
  pub node : Node
  pub there : node_at table.nodes k ≡ Some node
  pub at : ℕ
  pub checking : node.phase ≡ phase.Checking at
  pub over : (r : Record Key Value) → record_at graph k ≡ Some r → length r.groups ≤ at

-- an open node whose record is checked, and that has passed this many groups
abbrev pub IsChecking : OpenNodes → Key → ℕ → Type 0
IsChecking table k at = (n : Node) × (node_at table.nodes k ≡ Some n) × (n.phase ≡ phase.Checking at)

-- the last of the groups, or nothing if there is none
abbrev pub IsLastGroup : List (List Key) → List Key → Type 0
IsLastGroup groups group = ((groups ≡ []) × (group ≡ [])) ⊎ ((passed : List (List Key)) × (groups ≡ passed ++ group ∷ []))

-- an open node that makes turns, and this is its last group
abbrev pub IsRunningAt : OpenNodes → Key → List Key → Type 0
IsRunningAt table k group = (n : Node) × (node_at table.nodes k ≡ Some n) × (n.phase ≡ phase.Running) × IsLastGroup (groups_of n) group

-- the first of those that are to be visited is removed, or there is none
abbrev pub IsNextKey : OpenNodes → OpenNodes → Option Key → Type 0
IsNextKey before later (Some k) = (pending before ≡ k ∷ pending later) × (later.nodes ≡ before.nodes) × (later.ready.keys ≡ before.ready.keys) × (later.runs.items ≡ before.runs.items)
    × (later.visited ≡ before.visited + 1) × (before.visited < 2 ^ 64)
IsNextKey before later None = (pending before ≡ []) × (later ≡ before)
