-- What taking a turn back and visiting a node promise.
use Rattle.std.specs.Prelude.{◌≡◌, ◌+◌, ◌<◌, ◌^◌, List, [], ◌∷◌, Option, Result, IfSome, IfNone}
use Rattle.engine_semantics.specs.Reply.{Reply, Done}
use Rattle.engine_semantics.specs.Choices.{Back}
use Rattle.keys.specs.Jobs.{Outcome, Waits}
use Rattle.keys.specs.declared.key.Key.{Key}
use Rattle.keys.specs.declared.value.Value.{Value}
use Rattle.node.specs.Graphs.{GraphView, record_at}
use Rattle.round_nodes.specs.Nodes.{IsClean}
use Rattle.round_nodes.specs.Invariants.{KeepsInvariantBy}
use Rattle.round_nodes.specs.declared.table.OpenNodes.{OpenNodes}
use Rattle.round.specs.Frames.{KeepsOthersBut}
use Rattle.round.specs.NodeStates.{IsPaused}
use Rattle.round.specs.Turning.{IsOutWith}

-- one key more was looked at, of at most 2^64
abbrev pub LooksOnce : OpenNodes → OpenNodes → Type 0
LooksOnce before after = (after.visited ≡ before.visited + 1) × (before.visited < 2 ^ 64)

-- if the key's next turn ends with the value, what was true of the round is true after this turn came back
abbrev pub EndsTruly : {X E : Type 0} → Key → Value → GraphView → GraphView → OpenNodes → OpenNodes → Result X E → Type 0
EndsTruly key value old new before after result = (read : Key → Option Value) (next : Key → List Value → Reply Key Value) (answers : List Value)
    → IsOutWith old before key answers → next key answers ≡ Done value → KeepsInvariantBy (Back key ∷ []) next read old new before after result

-- what was true of the round is true after the turn came back
abbrev pub ComesBackTruly : {X E : Type 0} → (Key → List Value → Reply Key Value) → Outcome → GraphView → GraphView → OpenNodes → OpenNodes → Result X E → Type 0
ComesBackTruly next turned old new before after result = (read : Key → Option Value) → KeepsInvariantBy (Back turned.asked.key ∷ []) next read old new before after result

-- what is settled, what makes turns, and each job that is out but that of the turn stay
abbrev pub KeepsOthersOf : Outcome → GraphView → GraphView → OpenNodes → OpenNodes → Type 0
KeepsOthersOf turned old new before after = KeepsOthersBut turned.asked.key old new before after

-- a state, if there is one, is that of the key's node, which makes turns
abbrev pub IsPausedIfSome : GraphView → OpenNodes → Key → Option Waits → Type 0
IsPausedIfSome graph table key paused = IfSome paused (λ w. IsPaused graph table key w)

-- the key is settled if there is no state
abbrev pub IsCleanIfNone : GraphView → Key → Option Waits → Type 0
IsCleanIfNone graph key paused = IfNone paused (IsClean (record_at graph) key)
