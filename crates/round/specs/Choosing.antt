-- What the choices of a round allow, in terms of the results of its calls.
use Rattle.std.specs.Prelude.{◌≡◌, List, [], ◌∷◌, length, Option, Some, None, ⊤}
use Rattle.engine_semantics.specs.Reply.{Reply}
use Rattle.engine_semantics.specs.Choices.{Choice, Hand, Back, Keeps, IsOut, Comes, IsPossible}
use Rattle.engine_semantics.specs.States.{HasBacks}
use Rattle.keys.specs.Cycles.{cycle}
use Rattle.keys.specs.Jobs.{JobView}
use Rattle.keys.specs.declared.key.Key.{Key}
use Rattle.keys.specs.declared.value.Value.{Value}
use Rattle.node.specs.Graphs.{GraphView, record_at}
use Rattle.round_nodes.specs.Invariants.{IsNext, Past, IsTrueOf}
use Rattle.engine_semantics.specs.Value.{In}
use Rattle.round_nodes.specs.Nodes.{IsOpen}
use Rattle.round.specs.NodeStates.{NodeStates, HasState}
use Rattle.round.specs.Rounds.{RoundView, round_view}
use Rattle.round.specs.declared.rounds.Round.{Round}
use Rattle.round.specs.declared.rounds.TakeBackError.{TakeBackError}
use Rattle.round.specs.declared.rounds.TakeBackError.TheVariants as not_taken

-- the choice is possible after these, which were made since the entry of a call with this history
abbrev pub IsPossibleAfter : (next : Key → List Value → Reply Key Value) (read : Key → Option Value) (past : Past read) → List (Choice Key) → Choice Key → Type 0
IsPossibleAfter next read past cs c = IsPossible next cycle read (record_at past.entry) past.roots cs c

-- what is true for each history, and for all choices after which the round may be as it is
abbrev pub ForChoices : (read : Key → Option Value) → GraphView → RoundView → ((next : Key → List Value → Reply Key Value) (past : Past read) → List (Choice Key) → Type 0) → Type 0
ForChoices read graph s holds = (next : Key → List Value → Reply Key Value) (laws : IsNext next) (past : Past read) (cs : List (Choice Key)) → past.roots ≡ s.roots
    → IsTrueOf next read past cs graph s.table.nodes s.table.runs.items → holds next past cs

-- a job was handed out, and that was possible; or none was, and it was not possible
abbrev pub HandsWherePossible : (Key → Option Value) → GraphView → RoundView → Key → Option JobView → Type 0
HandsWherePossible read graph s k (Some job) = ForChoices read graph s (λ next past cs. IsPossibleAfter next read past cs (Hand k))
HandsWherePossible read graph s k None = ForChoices read graph s (λ next past cs. ¬ IsPossibleAfter next read past cs (Hand k))

-- the job is out after the choices: it was handed out and not taken back since, and its answers are those to the groups
-- that its key's turns asked for
pub record IsJobOut (next : Key → List Value → Reply Key Value) (read : Key → Option Value) (past : Past read) (cs : List (Choice Key)) (job : JobView) : Type 0 where
  pub out : IsOut job.key cs
  pub groups : List (List Key)
  pub comes : Comes next cycle read job.key [] groups job.answers
  pub taken : HasBacks job.key (length groups) cs

-- a turn is taken back only of a job that is out; a turn that is a stranger is of no job that is out
abbrev pub TakesJobOut : (Key → Option Value) → GraphView → RoundView → JobView → Type 0
TakesJobOut read graph s job = ForChoices read graph s (λ next past cs. IsJobOut next read past cs job)

abbrev pub StrangerWhereNotOut : {R S : Type 0} → (Key → Option Value) → GraphView → RoundView → JobView → TakeBackError R S → Type 0
StrangerWhereNotOut read graph s job (not_taken.Stranger t) = ForChoices read graph s (λ next past cs. ¬ IsJobOut next read past cs job)
StrangerWhereNotOut read graph s job (not_taken.Memory _) = ⊤

-- a state is kept exactly of the open nodes whose last turn was taken back, if it was neither dropped nor resumed
-- since; and what is out is so by the choices
pub record Follows (cs : List (Choice Key)) (s : RoundView) (kept : NodeStates) : Type 0 where
  pub states : (k : Key) → HasState kept k → Keeps k cs
  pub all_states : (k : Key) → Keeps k cs → IsOpen s.table.nodes k → HasState kept k
  pub out : (k : Key) → In k s.out → IsOut k cs

-- a round that followed the choices follows them and the hand; without a job it follows them still
abbrev pub FollowsHand : Key → RoundView → NodeStates → RoundView → NodeStates → Option JobView → Type 0
FollowsHand k before old later new (Some job) = (cs : List (Choice Key)) → Follows cs before old → Follows (Hand k ∷ cs) later new
FollowsHand k before old later new None = (cs : List (Choice Key)) → Follows cs before old → Follows cs later new

-- the same for a round
abbrev pub IsFollowing : {R S : Type 0} → List (Choice Key) → Round R S → Type 0
IsFollowing cs round = Follows cs (round_view round) round.kept

-- a round that followed the choices follows them and the turn that was taken back
abbrev pub FollowsBack : {R S : Type 0} → (Key → Option Value) → GraphView → Key → Round R S → Round R S → Type 0
FollowsBack read graph k before after = ForChoices read graph (round_view before) (λ next past cs. IsFollowing cs before → IsFollowing (Back k ∷ cs) after)
