-- What one step does to the table.
use Rattle.std.specs.Prelude.{◌≡◌, List, [], ◌∷◌, ◌++◌, Some, None}
use Rattle.indexmap.specs.IndexMap.{Updates}
use Rattle.keys.specs.Keys.{key_eq}
use Rattle.keys.specs.declared.key.Key.{Key}
use Rattle.node.specs.Edges.{IsAdded}
use Rattle.round_nodes.specs.Nodes.{Nodes, node_at, groups_of, pending}
use Rattle.round_nodes.specs.declared.run.Run.{Run}
use Rattle.round_nodes.specs.declared.table.Node.{Node}
use Rattle.round_nodes.specs.declared.table.Phase.{Phase}
use Rattle.round_nodes.specs.declared.table.Phase.TheVariants as phase
use Rattle.round_nodes.specs.declared.table.OpenNodes.{OpenNodes}

-- a node was added that has asked for nothing, and for which nothing waits
abbrev pub HasEntered : Nodes → Nodes → Key → Phase → Type 0
HasEntered old new key p = (n : Node) × Updates key_eq old new key (Some n) × (n.groups.items ≡ []) × (n.waiters.items ≡ []) × (n.phase ≡ p)

-- the node is in another phase
abbrev pub HasPhase : Nodes → Nodes → Key → Phase → Type 0
HasPhase old new key p = (n : Node) → node_at old key ≡ Some n → Updates key_eq old new key (Some (record n { phase = p }))

-- the runs are as they were
abbrev pub SameRuns : OpenNodes → OpenNodes → Type 0
SameRuns old new = new.runs.items ≡ old.runs.items

-- the key is to be visited after those that were, and the rest is as it was
pub record Pends (old new : OpenNodes) (key : Key) : Type 0 where
  pub pends : pending new ≡ pending old ++ key ∷ []
  pub ready : new.ready.keys ≡ old.ready.keys
  pub runs : SameRuns old new

-- the key was added to those that are ready, and the rest is as it was
pub record Readies (old new : OpenNodes) (key : Key) : Type 0 where
  pub ready : IsAdded old.ready.keys new.ready.keys key
  pub pends : pending new ≡ pending old
  pub runs : SameRuns old new

-- the node waits for the member
abbrev pub HasWatcher : Nodes → Nodes → Key → Key → Type 0
HasWatcher old new member key = (m : Node) → node_at old member ≡ Some m
    → (n : Node) × Updates key_eq old new member (Some n) × (n.groups.items ≡ m.groups.items) × (n.phase ≡ m.phase) × (n.waiters.items ≡ m.waiters.items ++ key ∷ [])

-- the node was removed, and those that waited for it are to be visited
pub record HasLeft (old new : OpenNodes) (key : Key) (n : Node) : Type 0 where
  pub gone : node_at new.nodes key ≡ None
  pub updates : Updates key_eq old.nodes new.nodes key None
  pub pends : pending new ≡ pending old ++ n.waiters.items
  pub ready : new.ready.keys ≡ old.ready.keys
  pub runs : SameRuns old new

-- a run was logged
pub record HasNoted (old new : OpenNodes) (run : Run) : Type 0 where
  pub runs : new.runs.items ≡ old.runs.items ++ run ∷ []
  pub nodes : new.nodes ≡ old.nodes
  pub ready : new.ready.keys ≡ old.ready.keys
  pub pends : pending new ≡ pending old
  pub looked : new.visited ≡ old.visited

-- the node's turn asked for the group
abbrev pub HasAsked : Nodes → Nodes → Key → List Key → Type 0
HasAsked old new key group = (m : Node) → node_at old key ≡ Some m
    → (n : Node) × Updates key_eq old new key (Some n) × (groups_of n ≡ groups_of m ++ group ∷ []) × (n.phase ≡ phase.Running) × (n.waiters.items ≡ m.waiters.items)
