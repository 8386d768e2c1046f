-- The open nodes of a round with the graph, as they are. `records` gives the graph's record of a key.
use Rattle.std.specs.Prelude.{◌≡◌, ◌≢◌, ◌⊎◌, ℕ, ◌≤◌, List, [], ◌∷◌, ◌++◌, take, drop, false, Option, Some, None}
use Rattle.std.specs.declared.hash.BuildHasherDefault.{BuildHasherDefault}
use Rattle.std.specs.declared.hash.FoldHasher.{FoldHasher}
use Rattle.indexmap.specs.IndexMap.{IndexMap, get}
use Rattle.engine_semantics.specs.Graph.{Record}
use Rattle.engine_semantics.specs.Value.{In, IsMember}
use Rattle.keys.specs.Keys.{key_eq}
use Rattle.keys.specs.Turns.{NoCycle}
use Rattle.keys.specs.declared.key.Key.{Key}
use Rattle.keys.specs.declared.value.Value.{Value}
use Rattle.node.specs.Records.{items_of}
use Rattle.node.specs.Graphs.{present}
use Rattle.round_nodes.specs.declared.table.Node.{Node}
use Rattle.round_nodes.specs.declared.table.Phase.{Phase}
use Rattle.round_nodes.specs.declared.table.Phase.TheVariants as phase
use Rattle.round_nodes.specs.declared.table.OpenNodes.{OpenNodes}

-- a hash table by keys
abbrev pub ByKey : Type 0 → Type 0
ByKey X = IndexMap Key X (BuildHasherDefault FoldHasher)

abbrev pub Nodes : Type 0
Nodes = ByKey Node

abbrev pub Records : Type 0
Records = Key → Option (Record Key Value)

-- the open node of a key
abbrev pub node_at : Nodes → Key → Option Node
node_at nodes k = get key_eq nodes k

-- the groups that its turns asked for
abbrev pub groups_of : Node → List (List Key)
groups_of n = items_of n.groups.items

abbrev pub IsOpen : Nodes → Key → Type 0
IsOpen nodes k = (n : Node) × (node_at nodes k ≡ Some n)

-- those that are still to be visited
abbrev pub pending : OpenNodes → List Key
pending t = drop t.visited t.queue.items

abbrev pub IsUnsettled : Records → Key → Type 0
IsUnsettled records k = present (records k) ≡ None

-- the key is settled
abbrev pub IsClean : Records → Key → Type 0
IsClean records k = (s : Record Key Value) × (records k ≡ Some s) × (s.dirty ≡ false)

-- it is settled, and not as a cycle
abbrev pub IsPlain : Records → Key → Type 0
IsPlain records k = (s : Record Key Value) × (records k ≡ Some s) × (s.dirty ≡ false) × NoCycle s.value

-- it is settled, and its value did not change after version u
abbrev pub IsStill : Records → ℕ → Key → Type 0
IsStill records u k = (s : Record Key Value) × (records k ≡ Some s) × (s.dirty ≡ false) × (s.changed_at ≤ u)

-- no group was asked for, or all groups but the last have settled members
abbrev pub AreButLast : Records → List (List Key) → Type 0
AreButLast records groups = (groups ≡ []) ⊎ ((passed : List (List Key)) × (group : List Key) × (groups ≡ passed ++ group ∷ []) × ((j : Key) → IsMember j passed → IsPlain records j))

-- the state of an open node, by its phase
abbrev pub Stands : Records → Key → List (List Key) → Phase → Type 0
Stands records k groups (phase.Checking at) = (r : Record Key Value) × (records k ≡ Some r) × (groups ≡ []) × ((j : Key) → IsMember j (take at r.groups) → IsStill records r.settled_at j)
Stands records k groups phase.Running = AreButLast records groups
Stands records k groups phase.Out = (j : Key) → IsMember j groups → IsPlain records j

abbrev pub Holds : Records → Nodes → Type 0
Holds records nodes = (k : Key) (n : Node) → node_at nodes k ≡ Some n → IsUnsettled records k × Stands records k (groups_of n) n.phase

-- the next turn of these can be handed out
abbrev pub AreReady : Records → Nodes → List Key → Type 0
AreReady records nodes ready = (k : Key) → In k ready → (n : Node) × (node_at nodes k ≡ Some n) × (n.phase ≡ phase.Running) × ((j : Key) → IsMember j (groups_of n) → IsPlain records j)

-- the group whose members a node waits for
abbrev pub IsCurrent : Records → Key → List (List Key) → Phase → List Key → Type 0
IsCurrent records k groups (phase.Checking at) group = (r : Record Key Value) × (rest : List (List Key)) × (records k ≡ Some r) × (r.groups ≡ take at r.groups ++ group ∷ rest)
IsCurrent records k groups phase.Running group = (passed : List (List Key)) × (groups ≡ passed ++ group ∷ [])
IsCurrent records k groups phase.Out group = ⊥

-- the member holds the node up: the node is among those that wait for it, or it is settled as a cycle
abbrev pub KeepsBack : Records → Nodes → Key → Phase → Key → Type 0
KeepsBack records nodes k at j = ((m : Node) × (node_at nodes j ≡ Some m) × In k m.waiters.items)
    ⊎ ((at ≡ phase.Running) × ((s : Record Key Value) × (records j ≡ Some s) × (s.dirty ≡ false) × (NoCycle s.value → ⊥)))

-- a node that must wait
pub record IsBlocked (records : Records) (nodes : Nodes) (k : Key) (n : Node) : Type 0 where
  pub group : List Key
  pub current : IsCurrent records k (groups_of n) n.phase group
  pub wanted : (j : Key) → In j group → IsOpen nodes j ⊎ IsClean records j
  pub member : Key
  pub among : In member group
  pub keeps_back : KeepsBack records nodes k n.phase member

abbrev pub AreBlocked : Records → Nodes → List Key → List Key → Type 0
AreBlocked records nodes ready waiting = (k : Key) (n : Node) → node_at nodes k ≡ Some n → n.phase ≢ phase.Out → In k waiting ⊎ (In k ready ⊎ IsBlocked records nodes k n)

-- the open nodes are as they must be, where these are still to be visited
pub record IsWhole (records : Records) (nodes : Nodes) (ready waiting : List Key) : Type 0 where
  pub holds : Holds records nodes
  pub ready_now : AreReady records nodes ready
  pub blocked : AreBlocked records nodes ready waiting

-- more keys are settled or open, and nothing else has changed for those that were
pub record Widens (records later : Records) (nodes after : Nodes) : Type 0 where
  pub clean : (j : Key) (s : Record Key Value) → records j ≡ Some s → s.dirty ≡ false → later j ≡ Some s
  pub open_still : (j : Key) (m : Node) → node_at nodes j ≡ Some m → node_at after j ≡ Some m
  pub same : (j : Key) (m : Node) → node_at nodes j ≡ Some m → later j ≡ records j

-- only these have their job out
abbrev pub AreOut : Nodes → List Key → Type 0
AreOut nodes keys = (k : Key) (n : Node) → node_at nodes k ≡ Some n → n.phase ≡ phase.Out → In k keys
