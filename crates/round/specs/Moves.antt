-- What a step of a round does to the graph and the open nodes.
use Rattle.std.specs.Prelude.{◌≡◌, ◌⊎◌, List, ◌∷◌, ◌++◌, Option, Result}
use Rattle.engine_semantics.specs.Reply.{Reply}
use Rattle.engine_semantics.specs.Choices.{Choice}
use Rattle.keys.specs.declared.key.Key.{Key}
use Rattle.keys.specs.declared.value.Value.{Value}
use Rattle.node.specs.Graphs.{GraphView, record_at}
use Rattle.round_nodes.specs.Nodes.{IsOpen, IsClean, IsWhole, Widens, pending, AreOut}
use Rattle.round_nodes.specs.TurnCounts.{MakesNoTurn}
use Rattle.round_nodes.specs.Invariants.{IsNext, Past, IsTrueOf, Leads, LeadsOf, LeadsToEnd}
use Rattle.round_nodes.specs.declared.table.OpenNodes.{OpenNodes}

-- whichever the node functions are, what was true of the round stays true
abbrev pub KeepsInvariant : {X E : Type 0} → (Key → Option Value) → GraphView → GraphView → OpenNodes → OpenNodes → Result X E → Type 0
KeepsInvariant read old new before after result = (next : Key → List Value → Reply Key Value) → Leads next read old new before after result

-- whichever the node functions are, what was true of the round is true after these choices, the newest first
abbrev pub StaysTrueBy : List (Choice Key) → (Key → Option Value) → GraphView → GraphView → OpenNodes → OpenNodes → Type 0
StaysTrueBy added read old new before later = (next : Key → List Value → Reply Key Value) (laws : IsNext next) (past : Past read) (cs : List (Choice Key))
    → IsTrueOf next read past cs old before.nodes before.runs.items → IsTrueOf next read past (added ++ cs) new later.nodes later.runs.items

-- what was true stays true if an evaluation of the roots reaches these keys, and the choices opened them
abbrev pub KeepsInvariantOf : {X E : Type 0} → List Key → (Key → Option Value) → GraphView → GraphView → OpenNodes → OpenNodes → Result X E → Type 0
KeepsInvariantOf keys read old new before after result = (next : Key → List Value → Reply Key Value) → LeadsOf next read keys old new before after result

-- whichever the node functions are, what was true of the round leads to what is true at its end
abbrev pub Ends : {X E : Type 0} → (Key → Option Value) → GraphView → GraphView → OpenNodes → OpenNodes → Result X E → Type 0
Ends read old new before after result = (next : Key → List Value → Reply Key Value) → LeadsToEnd next read old new before after result

-- keys are opened: more are settled or open, whatever else is to be visited
pub record Wants (old new : GraphView) (before after : OpenNodes) : Type 0 where
  pub version : new.version ≡ old.version
  pub widens : Widens (record_at old) (record_at new) before.nodes after.nodes
  pub whole : (spare : List Key) → IsWhole (record_at old) before.nodes before.ready.keys (spare ++ pending before) → IsWhole (record_at new) after.nodes after.ready.keys (spare ++ pending after)
  pub out : (keys : List Key) → AreOut before.nodes keys → AreOut after.nodes keys
  pub turns : MakesNoTurn before after

-- the key is settled or open
abbrev pub IsOpenOrSettled : GraphView → OpenNodes → Key → Type 0
IsOpenOrSettled graph table k = IsOpen table.nodes k ⊎ IsClean (record_at graph) k

-- the open nodes are as they must be, where this key and the pending ones are to be visited
abbrev pub IsInOrderBut : Key → GraphView → OpenNodes → Type 0
IsInOrderBut key graph table = IsWhole (record_at graph) table.nodes table.ready.keys (key ∷ pending table)

abbrev pub IsInOrder : GraphView → OpenNodes → Type 0
IsInOrder graph table = IsWhole (record_at graph) table.nodes table.ready.keys (pending table)

-- no other job is out
abbrev pub KeepsOut : OpenNodes → OpenNodes → Type 0
KeepsOut before after = (keys : List Key) → AreOut before.nodes keys → AreOut after.nodes keys

-- what was settled or open is settled or open
abbrev pub KeepsOpened : GraphView → GraphView → OpenNodes → OpenNodes → Type 0
KeepsOpened old new before after = (k : Key) → IsOpenOrSettled old before k → IsOpenOrSettled new after k
