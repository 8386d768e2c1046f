-- What a contract sees of a round, and how it agrees with the graph that its calls get.
use Rattle.std.specs.Prelude.{◌≡◌, ◌≢◌, List, [], Option, Some, None, Result, Ok, Err, ⊤}
use Rattle.engine_semantics.specs.Value.{In}
use Rattle.keys.specs.Jobs.{JobView, Outcome}
use Rattle.keys.specs.declared.key.Key.{Key}
use Rattle.node.specs.Edges.{IsAdded, IsRemoved}
use Rattle.node.specs.Graphs.{GraphView}
use Rattle.round_nodes.specs.TurnCounts.{MakesNoTurn, MakesMore}
use Rattle.round_nodes.specs.Nodes.{IsOpen, node_at, pending, AreOut}
use Rattle.round_nodes.specs.declared.run.Run.{Run}
use Rattle.round_nodes.specs.declared.table.OpenNodes.{OpenNodes}
use Rattle.round.specs.Moves.{IsOpenOrSettled, IsInOrder}
use Rattle.round.specs.NodeStates.{NodeStates, ArePaused, HasState, SameStates}
use Rattle.round.specs.Turning.{IsOutAt, IsOutWith}
use Rattle.round.specs.declared.rounds.Round.{Round}
use Rattle.round.specs.declared.rounds.TakeBackError.{TakeBackError}
use Rattle.round.specs.declared.rounds.TakeBackError.TheVariants as not_taken

-- the roots, the open nodes with the runs so far, and the keys whose jobs are out
pub record RoundView : Type 0 where
  pub roots : List Key
  pub table : OpenNodes
  pub out : List Key

abbrev pub round_view : {R S : Type 0} → Round R S → RoundView
round_view round = record { roots = round.roots.items; table = round.table; out = round.out }

-- the round is in order with the graph: nothing is to be visited, these jobs are out and no other ones, and each root
-- is settled or open
pub record IsBeside (graph : GraphView) (s : RoundView) : Type 0 where
  pub whole : IsInOrder graph s.table
  pub none_pending : pending s.table ≡ []
  pub only_out : AreOut s.table.nodes s.out
  pub all_out : (k : Key) → In k s.out → IsOutAt s.table k
  pub wanted : (k : Key) → In k s.roots → IsOpenOrSettled graph s.table k

-- the round is in order with the graph, and the states that it keeps may be resumed
abbrev pub AgreesWith : {R S : Type 0} → GraphView → Round R S → Type 0
AgreesWith graph round = IsBeside graph (round_view round) × ArePaused graph round.table round.kept

-- nothing that a contract sees of the round has changed: neither its view nor a state that it keeps
abbrev pub IsAsBefore : {R S : Type 0} → Round R S → Round R S → Type 0
IsAsBefore before after = (round_view after ≡ round_view before) × SameStates before.kept after.kept

-- no turn can be handed out, and no job is out
abbrev pub IsStalled : RoundView → Type 0
IsStalled s = (s.table.ready.keys ≡ []) × (s.out ≡ [])

-- the state of the key may be discarded: one is kept, and the round is not at a stall
abbrev pub CanDrop : RoundView → NodeStates → Key → Type 0
CanDrop s kept k = HasState kept k × (IsStalled s → ⊥)

-- the job of a key that is ready is out, with all answers so far; a key that is not ready has none, and nothing changes
abbrev pub HandsOut : GraphView → Key → RoundView → RoundView → Option JobView → Type 0
HandsOut graph k before later (Some job) = In k before.table.ready.keys × (job.key ≡ k) × IsOutWith graph later.table k job.answers × IsAdded before.out later.out k × (later.roots ≡ before.roots) × MakesNoTurn before.table later.table
HandsOut graph k before later None = (In k before.table.ready.keys → ⊥) × (later ≡ before)

-- the job of an earlier turn of this round that is out
abbrev pub IsOfJobOut : GraphView → RoundView → JobView → Type 0
IsOfJobOut graph s job = IsOutWith graph s.table job.key job.answers

-- each other job that is out stays out, with its answers
abbrev pub KeepsJobs : Key → GraphView → GraphView → RoundView → RoundView → Type 0
KeepsJobs key old new before after = (job : JobView) → key ≢ job.key → IsOfJobOut old before job → IsOfJobOut new after job

abbrev pub KeepsAllJobs : GraphView → RoundView → RoundView → Type 0
KeepsAllJobs graph before after = (job : JobView) → IsOfJobOut graph before job → IsOfJobOut graph after job

-- no node is open any more
abbrev pub NoneOpen : RoundView → Type 0
NoneOpen s = (k : Key) → node_at s.table.nodes k ≡ None

-- the runs, if all roots are settled; else the round itself
abbrev pub EndsWith : RoundView → Result (List Run) RoundView → Type 0
EndsWith s (Ok runs) = (runs ≡ s.table.runs.items) × ((k : Key) → In k s.roots → IsOpen s.table.nodes k → ⊥)
EndsWith s (Err round) = (round ≡ s) × (k : Key) × In k s.roots × IsOpen s.table.nodes k

-- the turn was of no job that is out and is returned, and nothing has changed; a failed allocation says nothing
abbrev pub Refuses : {R S : Type 0} → GraphView → GraphView → Round R S → Round R S → Outcome → TakeBackError R S → Type 0
Refuses old new before after turned (not_taken.Stranger t) = (t ≡ turned) × (IsOfJobOut old (round_view before) turned.asked → ⊥) × (new ≡ old) × (after ≡ before)
Refuses old new before after turned (not_taken.Memory _) = ⊤

-- the turn of a job that was out was taken back: its job is no longer out, and one turn more was made
abbrev pub TakesBack : RoundView → RoundView → Key → Type 0
TakesBack before after k = (after.roots ≡ before.roots) × IsRemoved before.out after.out k × MakesMore 1 before.table after.table
