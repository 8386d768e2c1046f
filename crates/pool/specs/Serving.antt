-- What the host of a pool keeps between two of its steps.
use Rattle.std.specs.Prelude.{◌≡◌, ℕ, ◌+◌, ◌-◌, Bool, true, false, List, [], length, Option, Some, None}
use mathlib.Core.Option.{some}
use lib.ListN.{get_elem?}
use Rattle.board.specs.Rule.{total}
use Rattle.board.specs.declared.view.View.{View}
use Rattle.engine_semantics.specs.Reply.{Reply}
use Rattle.engine_semantics.specs.Value.{In}
use Rattle.keys.specs.Jobs.{JobView, Outcome, turns_made}
use Rattle.keys.specs.declared.key.Key.{Key}
use Rattle.keys.specs.declared.value.Value.{Value}
use Rattle.node.specs.Graphs.{GraphView}
use Rattle.round_nodes.specs.TurnCounts.{HasMade}
use Rattle.round_nodes.specs.declared.table.OpenNodes.{OpenNodes}
use Rattle.round.specs.Rounds.{RoundView, round_view, AgreesWith, IsOfJobOut}
use Rattle.round.specs.Since.{IsTrueSinceSome, IsAfterSince}
use Rattle.round.specs.declared.rounds.Round.{Round}

-- the turns that were made for these
abbrev pub made_in : List Outcome → ℕ
made_in turns = total (λ t. turns_made t.ending) turns

abbrev pub one_out : Option JobView → ℕ
one_out None = 0
one_out (Some job) = 1

-- how many jobs are out
abbrev pub jobs_out : View JobView Outcome → ℕ
jobs_out v = total one_out v.out

-- how many are out after one was taken back, or none
abbrev pub left_out : Bool → ℕ → ℕ
left_out true out = out - 1
left_out false out = out

-- a host with as many places and hands, whose own answers are the same
abbrev pub IsSameHost : View JobView Outcome → View JobView Outcome → Type 0
IsSameHost v w = (length w.out ≡ length v.out) × (w.hands ≡ v.hands) × (w.answers ≡ v.answers)

-- the host may have shut the board, and did nothing else
abbrev pub IsShutOnly : View JobView Outcome → View JobView Outcome → Type 0
IsShutOnly v w = (w.out ≡ v.out) × (w.hands ≡ v.hands) × (w.answers ≡ v.answers) × (w.collected ≡ v.collected)

-- how many are out after one was handed out: one more, if it was posted
abbrev pub given_out : Bool → ℕ → ℕ
given_out true out = out + 1
given_out false out = out

-- the key's job is out at some place
abbrev pub IsPostedKey : View JobView Outcome → Key → Type 0
IsPostedKey v k = (p : ℕ) × (job : JobView) × (get_elem? v.out p ≡ some (Some job)) × (job.key ≡ k)

-- each job on the board is one of the round's that are out
abbrev pub AreKnown : GraphView → RoundView → View JobView Outcome → Type 0
AreKnown graph s v = (p : ℕ) (job : JobView) → get_elem? v.out p ≡ some (Some job) → IsOfJobOut graph s job

-- no key has two
abbrev pub AreApart : View JobView Outcome → Type 0
AreApart v = (p q : ℕ) (job other : JobView) → get_elem? v.out p ≡ some (Some job) → get_elem? v.out q ≡ some (Some other) → job.key ≡ other.key → p ≡ q

-- The round agrees with the graph, and each of its jobs that is out is on the board, which has this many places. The
-- turns that the host made itself, with those that were collected, are those that the round has counted. With the jobs
-- that are out they are as many as were handed out.
pub record IsServing {R S : Type 0} (graph : GraphView) (round : Round R S) (v : View JobView Outcome) (roots : List Key) (own places hands out handed : ℕ) : Type 0 where
  pub beside : AgreesWith graph round
  pub same_roots : (round_view round).roots ≡ roots
  pub made : HasMade round.table (own + made_in v.collected)
  pub posted : (k : Key) → In k (round_view round).out → IsPostedKey v k
  pub sized : length v.out ≡ places
  pub staffed : v.hands ≡ hands
  pub none_answered : v.answers ≡ []
  pub counted : jobs_out v ≡ out
  pub handed_out : own + made_in v.collected + out ≡ handed
  pub known : AreKnown graph (round_view round) v
  pub apart : AreApart v

-- what was true after some choices since an entry is true after some more
abbrev pub StaysTrueSince : (Key → List Value → Reply Key Value) → (Key → Option Value) → GraphView → GraphView → OpenNodes → OpenNodes → Type 0
StaysTrueSince next read old new before after = (roots : List Key) (entry : GraphView) → IsTrueSinceSome next read roots entry old before → IsTrueSinceSome next read roots entry new after

-- if it was true, the graph is as after a stop
abbrev pub IsAfterStop : (Key → List Value → Reply Key Value) → (Key → Option Value) → GraphView → GraphView → OpenNodes → Type 0
IsAfterStop next read old new before = (roots : List Key) (entry : GraphView) → IsTrueSinceSome next read roots entry old before → IsAfterSince next read roots entry new
