-- What one choice of a replayed round promises.
use Rattle.std.specs.Prelude.{◌≡◌, ℕ, ◌≤◌, List, Bool, Option, Result, Err, IfOk, IfErr, IsErrOf, IsTrue}
use Rattle.engine_semantics.specs.Reply.{Reply}
use Rattle.engine_semantics.specs.Choices.{Hand}
use Rattle.filetree.specs.Files.{Files}
use Rattle.keys.specs.Leaves as leaves
use Rattle.keys.specs.Jobs.{Outcome}
use Rattle.keys.specs.declared.key.Key.{Key}
use Rattle.keys.specs.declared.value.Value.{Value}
use Rattle.node.specs.Graphs.{GraphView}
use Rattle.round.specs.Call.{Calls}
use Rattle.round.specs.Playing.{Plays, IsPossibleNow, HandsMore, CountsIf, StopsAfter}
use Rattle.round.specs.Replays.{choice_view, hand_of}
use Rattle.round.specs.declared.choice.Choice.{Choice}
use Rattle.round.specs.declared.replaying.Play.{Play}
use Rattle.round.specs.declared.rounds.Round.{Round}
use Rattle.round.specs.declared.stop.Stop.{Stop}
use Rattle.round.specs.declared.stop.Stop.TheVariants as stop

-- the count of turns grew by this many if the choice was made, and otherwise not at all
abbrev pub AddsIf : ℕ → ℕ → ℕ → Bool → Type 0
AddsIf more old new went = CountsIf went more old new

-- if the budget was spent, neither the graph nor the count of turns has changed
abbrev pub IsUnspent : {X : Type 0} → GraphView → GraphView → ℕ → ℕ → Result X Stop → Type 0
IsUnspent old new before after result = IsErrOf result stop.Budget → (new ≡ old) × (after ≡ before)

-- the choice, if it was made, hands out no more turns than are left, and they are counted
abbrev pub CountsChoice : {E : Type 0} → Choice → ℕ → ℕ → ℕ → Result Bool E → Type 0
CountsChoice c left old new result = IfOk result (λ went. IsTrue went → hand_of c ≤ left) × IfOk result (λ went. CountsIf went (hand_of c) old new)

-- if the call stopped, the graph is as after a stop
abbrev pub StopsCall : (Key → List Value → Reply Key Value) → Files → List Key → GraphView → GraphView → Stop → Type 0
StopsCall next files roots old new e = Calls next (leaves.read files) roots old new (Err e)

module _ {R S : Type 0} where
  -- whatever was handed out before, this many turns more were if the choice was made
  abbrev pub HandsIf : ℕ → Round R S → Round R S → List Outcome → List Outcome → Bool → Type 0
  HandsIf more before after turns new went = IsTrue went → HandsMore more before after turns new

  -- the same for the turns that the choice hands out
  abbrev pub HandsBy : {E : Type 0} → Choice → Play R S → Play R S → Result Bool E → Type 0
  HandsBy c before after result = IfOk result (λ went. IsTrue went → HandsMore (hand_of c) before.round after.round before.turns.items after.turns.items)

  module _ (next : Key → List Value → Reply Key Value) where
    -- the hand was possible, and the round is as after it; or it was not, and the graph is as before
    abbrev pub PlaysHand : {E : Type 0} → Key → GraphView → Round R S → Round R S → Result Bool E → Type 0
    PlaysHand key graph before after result = (read : Key → Option Value) → IfOk result (Plays next read (Hand key) graph graph before after)

    -- the budget was spent only with no turn left, where the hand is possible
    abbrev pub LacksTurnForHand : {X : Type 0} → Key → ℕ → GraphView → Round R S → Result X Stop → Type 0
    LacksTurnForHand key left graph round result = (read : Key → Option Value) → IsErrOf result stop.Budget → (left ≡ 0) × IsPossibleNow next read (Hand key) graph round

    -- the budget was spent only with no turn left, where the choice hands one out and is possible
    abbrev pub LacksTurnFor : {X : Type 0} → Files → Choice → ℕ → GraphView → Round R S → Result X Stop → Type 0
    LacksTurnFor files c left graph round result = IsErrOf result stop.Budget → (left ≡ 0) × (hand_of c ≡ 1) × IsPossibleNow next (leaves.read files) (choice_view c) graph round

    -- if the choice stopped, the graph is as after a stop, whatever the files are
    abbrev pub StopsForAll : {X E : Type 0} → GraphView → GraphView → Round R S → Result X E → Type 0
    StopsForAll old new before result = (read : Key → Option Value) → IfErr result (λ e. StopsAfter next read old new before)

    -- if the choice stopped, the graph is as after a stop
    abbrev pub StopsChoice : {X E : Type 0} → Files → GraphView → GraphView → Round R S → Result X E → Type 0
    StopsChoice files old new before result = IfErr result (λ e. StopsAfter next (leaves.read files) old new before)
