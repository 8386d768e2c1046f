-- What the calls of a round promise.
use Rattle.std.specs.Prelude.{◌≡◌, List, [], ◌∷◌, Bool, Option, Result, IfOk, IfErr, OnOk, IfSome}
use Rattle.std.specs.Bool.{Decides}
use Rattle.engine_semantics.specs.Choices.{Choice, Hand, Drop}
use Rattle.engine_semantics.specs.Value.{In}
use Rattle.keys.specs.Jobs.{JobView, Outcome, Made}
use Rattle.keys.specs.declared.key.Key.{Key}
use Rattle.keys.specs.declared.value.Value.{Value}
use Rattle.node.specs.Graphs.{GraphView}
use Rattle.round_nodes.specs.declared.table.OpenNodes.{OpenNodes}
use Rattle.round.specs.Moves.{StaysTrueBy, IsOpenOrSettled}
use Rattle.round.specs.Rounds.{round_view, AgreesWith, HandsOut, IsOfJobOut, TakesBack, KeepsJobs}
use Rattle.round.specs.Choosing.{IsPossibleAfter, ForChoices, HandsWherePossible, TakesJobOut, StrangerWhereNotOut, Follows, FollowsHand, FollowsBack, IsFollowing}
use Rattle.round.specs.declared.rounds.Round.{Round}
use Rattle.round.specs.declared.rounds.TakeBackError.{TakeBackError}

-- what was true of the round is true after the key's turn was handed out, if it was
abbrev pub HandsTruly : {J E : Type 0} → GraphView → Key → OpenNodes → OpenNodes → Result (Option J) E → Type 0
HandsTruly graph key before after result = (read : Key → Option Value) → IfOk result (λ job. IfSome job (λ j. StaysTrueBy (Hand key ∷ []) read graph graph before after))

-- what was true of the round is true after the state of the key was dropped
abbrev pub DropsTruly : Key → OpenNodes → OpenNodes → Type 0
DropsTruly key before after = (read : Key → Option Value) (graph : GraphView) → StaysTrueBy (Drop key ∷ []) read graph graph before after

module _ {R S : Type 0} where
  -- the job of a key that is ready is out, with all answers so far; a key that is not ready has none, and nothing
  -- changes
  abbrev pub HandsOutJob : GraphView → Key → Round R S → Round R S → Option JobView → Type 0
  HandsOutJob graph key before after job = HandsOut graph key (round_view before) (round_view after) job

  -- a round that followed the choices follows them and the hand; without a job it follows them still
  abbrev pub FollowsJob : Key → Round R S → Round R S → Option JobView → Type 0
  FollowsJob key before after job = FollowsHand key (round_view before) before.kept (round_view after) after.kept job

  -- a job was handed out exactly if that was possible
  abbrev pub HandsIfPossible : {E : Type 0} → GraphView → Key → Round R S → Result (Option JobView) E → Type 0
  HandsIfPossible graph key before result = (read : Key → Option Value) → IfOk result (HandsWherePossible read graph (round_view before) key)

  -- the turn of a job that was out was taken back, and was made
  abbrev pub TakesTurnBack : GraphView → Round R S → Round R S → Outcome → Type 0
  TakesTurnBack graph before after turned = IsOfJobOut graph (round_view before) turned.asked × TakesBack (round_view before) (round_view after) turned.asked.key × (turned.ending ≡ Made)

  -- each job that is out but that of the turn stays out, with its answers
  abbrev pub KeepsJobsBut : Outcome → GraphView → GraphView → Round R S → Round R S → Type 0
  KeepsJobsBut turned old new before after = KeepsJobs turned.asked.key old new (round_view before) (round_view after)

  -- the turn was taken back only if its job was out by the choices
  abbrev pub IsOutIfTaken : {X E : Type 0} → GraphView → Round R S → Outcome → Result X E → Type 0
  IsOutIfTaken graph before turned result = (read : Key → Option Value) → OnOk result (TakesJobOut read graph (round_view before) turned.asked)

  -- the turn was a stranger only if its job was not out by the choices
  abbrev pub IsNotOutIfStranger : {X : Type 0} → GraphView → Round R S → Outcome → Result X (TakeBackError R S) → Type 0
  IsNotOutIfStranger graph before turned result = (read : Key → Option Value) → IfErr result (StrangerWhereNotOut read graph (round_view before) turned.asked)

  -- a round that followed the choices follows them and the turn, if it was taken back
  abbrev pub FollowsIfTaken : {X E : Type 0} → GraphView → Outcome → Round R S → Round R S → Result X E → Type 0
  FollowsIfTaken graph turned before after result = (read : Key → Option Value) → OnOk result (FollowsBack read graph turned.asked.key before after)

  -- a state was dropped exactly if that was possible after the choices that the round follows
  abbrev pub DropsIfPossible : Key → Round R S → Bool → Type 0
  DropsIfPossible key before dropped = (read : Key → Option Value) (graph : GraphView) → AgreesWith graph before
      → ForChoices read graph (round_view before) (λ next past cs. IsFollowing cs before → Decides dropped (IsPossibleAfter next read past cs (Drop key)))

  -- a round that followed the choices follows them and the drop
  abbrev pub FollowsDrop : Key → Round R S → Round R S → Type 0
  FollowsDrop key before after = (cs : List (Choice Key)) → IsFollowing cs before → IsFollowing (Drop key ∷ cs) after

  -- each root of the round is settled or open
  abbrev pub HasRootsOpenOrSettled : GraphView → Round R S → Type 0
  HasRootsOpenOrSettled graph round = (k : Key) → In k (round_view round).roots → IsOpenOrSettled graph round.table k
