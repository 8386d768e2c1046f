-- A round with the turns that were made and did not come back, and what one choice does to it.
use Rattle.std.specs.Prelude.{◌≡◌, ℕ, ◌+◌, ◌<◌, List, ◌∷◌, ◌++◌, length, map, take, drop, Bool, true, false, Option, Some, None}
use Rattle.engine_semantics.specs.Reply.{Reply}
use Rattle.engine_semantics.specs.Value.{In, AllDiffer}
use Rattle.engine_semantics.specs.Choices.{Choice}
use Rattle.keys.specs.Jobs.{Outcome}
use Rattle.keys.specs.declared.key.Key.{Key}
use Rattle.keys.specs.declared.value.Value.{Value}
use Rattle.node.specs.Graphs.{GraphView}
use Rattle.round_nodes.specs.TurnCounts.{HasMade}
use Rattle.round_nodes.specs.Invariants.{IsNext, Past, IsAfter, IsTrueOf}
use Rattle.round.specs.Choosing.{IsPossibleAfter, IsFollowing}
use Rattle.round.specs.Rounds.{RoundView, round_view, AgreesWith, IsOfJobOut}
use Rattle.round.specs.declared.rounds.Round.{Round}

-- the turn of the key is at the place, or nowhere
abbrev pub HasPlace : List Outcome → Key → Option ℕ → Type 0
HasPlace turns key (Some at) = (turn : Outcome) × (turns ≡ take at turns ++ turn ∷ drop (at + 1) turns) × (at < length turns) × (turn.asked.key ≡ key)
HasPlace turns key None = (turn : Outcome) → In turn turns → turn.asked.key ≡ key → ⊥

abbrev pub turn_keys : List Outcome → List Key
turn_keys turns = map (λ turn. turn.asked.key) turns

-- the turns that did not come back are those of the jobs that are out, one each
pub record AreOutTurns (graph : GraphView) (s : RoundView) (turns : List Outcome) : Type 0 where
  pub each : (turn : Outcome) → In turn turns → IsOfJobOut graph s turn.asked
  pub all : (k : Key) → In k s.out → In k (turn_keys turns)
  pub differ : AllDiffer (turn_keys turns)

abbrev pub IsPlaying : {R S : Type 0} → GraphView → Round R S → List Outcome → Type 0
IsPlaying graph round turns = AgreesWith graph round × AreOutTurns graph (round_view round) turns

-- the round may be the result of these choices, in a call with this history
pub record HasCome {R S : Type 0} (next : Key → List Value → Reply Key Value) (read : Key → Option Value) (past : Past read) (cs : List (Choice Key)) (graph : GraphView) (round : Round R S) : Type 0 where
  pub roots : past.roots ≡ (round_view round).roots
  pub truth : IsTrueOf next read past cs graph round.table.nodes round.table.runs.items
  pub follows : IsFollowing cs round

-- the choice was possible after those that led to the round, and the round is as after it; or it was not possible, and
-- the graph is as before
abbrev pub Plays : {R S : Type 0} → (Key → List Value → Reply Key Value) → (Key → Option Value) → Choice Key → GraphView → GraphView → Round R S → Round R S → Bool → Type 0
Plays next read c old new before after true = (laws : IsNext next) (past : Past read) (cs : List (Choice Key)) → HasCome next read past cs old before → IsPossibleAfter next read past cs c × HasCome next read past (c ∷ cs) new after
Plays next read c old new before after false = (laws : IsNext next) (past : Past read) (cs : List (Choice Key)) → HasCome next read past cs old before → (IsPossibleAfter next read past cs c → ⊥) × HasCome next read past cs new after × (new ≡ old)

-- the choice is possible after those that led to the round
abbrev pub IsPossibleNow : {R S : Type 0} → (Key → List Value → Reply Key Value) → (Key → Option Value) → Choice Key → GraphView → Round R S → Type 0
IsPossibleNow next read c graph round = (laws : IsNext next) (past : Past read) (cs : List (Choice Key)) → HasCome next read past cs graph round → IsPossibleAfter next read past cs c

-- this many turns were handed out: those that came back, which the round has counted, and those that did not
abbrev pub HasHanded : {R S : Type 0} → Round R S → List Outcome → ℕ → Type 0
HasHanded round turns handed = (back : ℕ) × HasMade round.table back × (back + length turns ≡ handed)

-- whatever was handed out before, this many turns more were
abbrev pub HandsMore : {R S : Type 0} → ℕ → Round R S → Round R S → List Outcome → List Outcome → Type 0
HandsMore more before after turns new = (handed : ℕ) → HasHanded before turns handed → HasHanded after new (handed + more)

-- the count of turns grew by this many if the choice was made, and otherwise not at all
abbrev pub CountsIf : Bool → ℕ → ℕ → ℕ → Type 0
CountsIf true more old new = new ≡ old + more
CountsIf false more old new = new ≡ old

-- the graph is as after a stop
abbrev pub StopsAfter : {R S : Type 0} → (Key → List Value → Reply Key Value) → (Key → Option Value) → GraphView → GraphView → Round R S → Type 0
StopsAfter next read old new before = (laws : IsNext next) (past : Past read) (cs : List (Choice Key)) → HasCome next read past cs old before → IsAfter next read past new
