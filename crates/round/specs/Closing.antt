-- The nodes that a stall closes, as they were open with the graph.
use Rattle.std.specs.Prelude.{◌≡◌, ℕ, ◌+◌, List, [], ◌∷◌, ◌++◌, length, map, take, Bool, true, false, Option, Some, None, ⊤}
use Rattle.std.specs.BTreeMap.{BTreeMap, get, Updates}
use Rattle.std.specs.Ordering.{is_lt}
use Rattle.std.specs.declared.cmp.Ordering.TheVariants.{Less}
use Rattle.engine_semantics.specs.Graph.{Record}
use Rattle.engine_semantics.specs.Value.{In, AllDiffer}
use Rattle.keys.specs.Keys.{key_cmp}
use Rattle.keys.specs.declared.key.Key.{Key}
use Rattle.keys.specs.declared.value.Value.{Value}
use Rattle.node.specs.Records.{items_of}
use Rattle.round_nodes.specs.TurnCounts.{MakesNoTurn}
use Rattle.round_nodes.specs.Nodes.{Nodes, Records, node_at, groups_of, IsOpen, pending, AreOut}
use Rattle.round_nodes.specs.declared.run.Run.{Run}
use Rattle.round_nodes.specs.declared.table.Node.{Node}
use Rattle.round_nodes.specs.declared.table.Phase.{Phase}
use Rattle.round_nodes.specs.declared.table.Phase.TheVariants as phase
use Rattle.round_nodes.specs.declared.table.OpenNodes.{OpenNodes}
use Rattle.round.specs.Looks.{IsLastGroup}
use Rattle.round_nodes.specs.Members.{IsStop}
use Rattle.round.specs.declared.closing.Closing.{Closing}
use Rattle.round.specs.declared.closing.Stall.{Stall}

-- the groups of a node up to the one that it waits for: for a checked one those of its record, for another one all that
-- its turns asked for
abbrev pub ClosesBy : Records → Key → List (List Key) → Phase → List (List Key) → Type 0
ClosesBy records k asked (phase.Checking at) groups = (r : Record Key Value) → records k ≡ Some r → groups ≡ take (at + 1) r.groups
ClosesBy records k asked phase.Running groups = groups ≡ asked
ClosesBy records k asked phase.Out groups = groups ≡ asked

abbrev pub ClosesWith : Records → Key → Node → List (List Key) → Type 0
ClosesWith records k n groups = ClosesBy records k (groups_of n) n.phase groups

-- whether the node made turns
abbrev pub HasTurnedBy : Phase → Bool → Type 0
HasTurnedBy (phase.Checking at) turned = turned ≡ false
HasTurnedBy phase.Running turned = turned ≡ true
HasTurnedBy phase.Out turned = turned ≡ true

abbrev pub HasTurned : Node → Bool → Type 0
HasTurned n turned = HasTurnedBy n.phase turned

-- the first member of the last group without a value, if there is one
abbrev pub StopsIn : Records → List (List Key) → Option Key → Type 0
StopsIn records groups stop = (group : List Key) × IsLastGroup groups group × IsStop records group stop

abbrev pub Stops : Type 0
Stops = BTreeMap Key Key

abbrev pub stop_at : Stops → Key → Option Key
stop_at stops k = get key_cmp stops k

-- the stop of a key is put into the map, if there is one
abbrev pub PutsStop : Stops → Stops → Key → Option Key → Type 0
PutsStop old new key (Some member) = Updates key_cmp old new key (Some member)
PutsStop old new key None = new ≡ old

abbrev pub closing_keys : List Closing → List Key
closing_keys closing = map (λ c. c.key) closing

-- a node that was open is closed with these groups, and stops there
pub record IsClosed (records : Records) (nodes : Nodes) (stops : Stops) (c : Closing) : Type 0 where
  pub node : Node
  pub there : node_at nodes c.key ≡ Some node
  pub groups : ClosesWith records c.key node (items_of c.groups.items)
  pub stop : StopsIn records (items_of c.groups.items) (stop_at stops c.key)

-- no key is above one before it
abbrev pub Descends : List (Key × Node) → Type 0
Descends [] = ⊤
Descends (e ∷ es) = ((x : Key × Node) → In x es → is_lt (key_cmp e.0 x.0) ≡ false) × Descends es

-- no open node's key is below it
abbrev pub IsLeast : Nodes → Key → Type 0
IsLeast nodes k = (j : Key) → IsOpen nodes j → is_lt (key_cmp j k) ≡ false

-- the run of a closed node that made turns
pub record IsRunOfClosed (version : ℕ) (nodes : Nodes) (closing : List Closing) (x : Run) : Type 0 where
  pub closed : Closing
  pub among : In closed closing
  pub same_key : x.key ≡ closed.key
  pub now : x.version ≡ version
  pub turns : x.turns ≡ length closed.groups.items
  pub turned : (n : Node) → node_at nodes closed.key ≡ Some n → HasTurned n true

-- each run's key is before the keys of those after it
abbrev pub AreAscending : List Run → Type 0
AreAscending runs = (before rest : List Run) (run : Run) → runs ≡ before ++ run ∷ rest → (later : Run) → In later rest → key_cmp run.key later.key ≡ Less

-- nodes were removed from those that are open, the least ones, each with its run if it made turns
pub record HasTaken (records : Records) (version : ℕ) (before after : OpenNodes) (stall : Stall) : Type 0 where
  pub closed : (c : Closing) → In c stall.closing.items → IsClosed records before.nodes stall.stops c
  pub gone : (k : Key) → In k (closing_keys stall.closing.items) → node_at after.nodes k ≡ None
  pub stays : (k : Key) → (In k (closing_keys stall.closing.items) → ⊥) → (node_at after.nodes k ≡ node_at before.nodes k) × (stop_at stall.stops k ≡ None)
  pub differ : AllDiffer (closing_keys stall.closing.items)
  pub added : List Run
  pub runs : after.runs.items ≡ before.runs.items ++ added
  pub added_each : (x : Run) → In x added → IsRunOfClosed version before.nodes stall.closing.items x
  pub added_all : (c : Closing) → In c stall.closing.items → (n : Node) → node_at before.nodes c.key ≡ Some n → HasTurned n true → In c.key (map (λ (x : Run). x.key) added)
  pub added_differ : AllDiffer (map (λ (x : Run). x.key) added)
  pub ascending : AreAscending added
  pub below : (x : Run) → In x added → (k : Key) → IsOpen after.nodes k → key_cmp x.key k ≡ Less
  pub made : MakesNoTurn before after

-- no job is out, none is ready, and nothing is to be visited
pub record IsIdle (table : OpenNodes) : Type 0 where
  pub none_pending : pending table ≡ []
  pub none_ready : table.ready.keys ≡ []
  pub none_out : AreOut table.nodes []
