-- The states of node functions that a round keeps between turns.
use Rattle.std.specs.Prelude.{◌≡◌, ◌≢◌, ◌⊎◌, List, [], ◌∷◌, ◌++◌, Bool, true, false, Option, Some, None}
use Rattle.indexmap.specs.IndexMap.{get, Updates}
use Rattle.engine_semantics.specs.Value.{In}
use Rattle.keys.specs.Jobs.{Waits}
use Rattle.keys.specs.Keys.{key_eq}
use Rattle.keys.specs.declared.key.Key.{Key}
use Rattle.keys.specs.declared.value.Value.{Value}
use Rattle.node.specs.Graphs.{GraphView, record_at}
use Rattle.round_nodes.specs.Nodes.{ByKey, node_at, groups_of}
use Rattle.round_nodes.specs.declared.table.Node.{Node}
use Rattle.round_nodes.specs.declared.table.Phase.TheVariants as phase
use Rattle.round_nodes.specs.declared.table.OpenNodes.{OpenNodes}
use Rattle.round_nodes.specs.Members.{AreAnswers}

-- a state of a node that makes turns, after the answers to all groups that it asked for but the last
pub record IsPaused (graph : GraphView) (table : OpenNodes) (k : Key) (w : Waits) : Type 0 where
  pub same_key : w.key ≡ k
  pub node : Node
  pub there : node_at table.nodes k ≡ Some node
  pub running : node.phase ≡ phase.Running
  pub passed : List (List Key)
  pub group : List Key
  pub split : groups_of node ≡ passed ++ group ∷ []
  pub answered : AreAnswers (record_at graph) passed w.answers

abbrev pub NodeStates : Type 0
NodeStates = ByKey Waits

abbrev pub ArePaused : GraphView → OpenNodes → NodeStates → Type 0
ArePaused graph table kept = (k : Key) (w : Waits) → get key_eq kept k ≡ Some w → IsPaused graph table k w

-- no state was added
abbrev pub FewerKept : NodeStates → NodeStates → Type 0
FewerKept old new = (k : Key) (w : Waits) → get key_eq new k ≡ Some w → get key_eq old k ≡ Some w

-- a state of the key is kept
abbrev pub HasState : NodeStates → Key → Type 0
HasState kept key = (w : Waits) × (get key_eq kept key ≡ Some w)

-- all states stay
abbrev pub SameStates : NodeStates → NodeStates → Type 0
SameStates old new = (k : Key) → get key_eq new k ≡ get key_eq old k

-- the state of the key was discarded and the others stay; or all stay
abbrev pub DropsState : NodeStates → NodeStates → Key → Bool → Type 0
DropsState old new key true = Updates key_eq old new key None
DropsState old new key false = SameStates old new

-- the state was added, if there is one, and nothing else
abbrev pub PutsState : NodeStates → NodeStates → Key → Option Waits → Type 0
PutsState old new key (Some w) = Updates key_eq old new key (Some w)
PutsState old new key None = new ≡ old

-- the state of the key is no longer kept, and the others stay
abbrev pub TakesOut : NodeStates → NodeStates → Key → Type 0
TakesOut old new key = (get key_eq new key ≡ None) × ((k : Key) → key ≢ k → get key_eq new k ≡ get key_eq old k)

-- the answers that a state has
abbrev pub kept_answers : Option Waits → List Value
kept_answers None = []
kept_answers (Some w) = w.answers

-- a key that is ready has all answers so far, those that its state has and these after them; a key that is not ready
-- has none
abbrev pub NeedsValues : GraphView → OpenNodes → NodeStates → Key → Option (List Value) → Type 0
NeedsValues graph table kept k (Some found) = In k table.ready.keys × ((n : Node) → node_at table.nodes k ≡ Some n → AreAnswers (record_at graph) (groups_of n) (kept_answers (get key_eq kept k) ++ found))
NeedsValues graph table kept k None = In k table.ready.keys → ⊥

-- the state was added, if there is one, and the others stay
abbrev pub Keeps : NodeStates → NodeStates → Key → Option Waits → Type 0
Keeps old new key paused = (k : Key) (w : Waits) → get key_eq new k ≡ Some w → (get key_eq old k ≡ Some w) ⊎ ((key ≡ k) × (paused ≡ Some w))
