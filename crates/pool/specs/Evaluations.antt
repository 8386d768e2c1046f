-- How an evaluation over a pool begins and ends.
use Rattle.std.specs.Prelude.{◌≡◌, ℕ, ◌+◌, ◌≤◌, List, length, Option, Result, Ok, Err, IfOk, IfErr, IsErrOf}
use Rattle.std.specs.declared.alloc.Global.{Global}
use Rattle.std.specs.declared.vec.Vec.{Vec}
use Rattle.board.specs.declared.view.View.{View}
use Rattle.engine_semantics.specs.Reply.{Reply}
use Rattle.keys.specs.Jobs.{JobView, Outcome}
use Rattle.keys.specs.declared.key.Key.{Key}
use Rattle.keys.specs.declared.value.Value.{Value}
use Rattle.node.specs.Graphs.{GraphView}
use Rattle.round_nodes.specs.TurnCounts.{turns_of}
use Rattle.round_nodes.specs.declared.run.Run.{Run}
use Rattle.round.specs.Call.{Calls, HasOpenRoot, HasTurnToMake}
use Rattle.round.specs.Here.{IsResting}
use Rattle.round.specs.Rounds.{round_view}
use Rattle.round.specs.Since.{IsTrueSinceSome}
use Rattle.round.specs.declared.stop.Stop.{Stop}
use Rattle.round.specs.declared.stop.Stop.TheVariants as stop
use Rattle.pool.specs.Serving.{made_in, jobs_out}
use Rattle.pool.specs.declared.context.Evaluation.{Evaluation}
use Rattle.pool.specs.declared.host_state.HostState.{HostState}

-- what a call gives: the rules and the runs, or why it stopped
abbrev pub Evaluated : Type 0 → Type 0
Evaluated R = Result (Vec R Global × Vec Run Global) Stop

module _ (next : Key → List Value → Reply Key Value) (read : Key → Option Value) where
  -- the law of a call, if it ended well
  abbrev pub FollowsLaw : {R : Type 0} → List Key → GraphView → GraphView → Evaluated R → Type 0
  FollowsLaw roots old new result = IfOk result (λ done. Calls next read roots old new (Ok done.1.items))

  -- the law of a call that stopped, if it did
  abbrev pub Stops : {R : Type 0} → List Key → GraphView → GraphView → Evaluated R → Type 0
  Stops roots old new result = IfErr result (λ e. Calls next read roots old new (Err e))

  -- a root is open, if the budget is spent
  abbrev pub RootIsOpen : {R : Type 0} → List Key → GraphView → GraphView → Evaluated R → Type 0
  RootIsOpen roots old new result = IsErrOf result stop.Budget → HasOpenRoot next read roots old new

  -- a turn is to be made, if the budget is spent
  abbrev pub TurnIsLeft : {R : Type 0} → List Key → GraphView → GraphView → Evaluated R → Type 0
  TurnIsLeft roots old new result = IsErrOf result stop.Budget → HasTurnToMake next read roots old new

  -- an evaluation of which the first turns were made, at most `budget`, and no job is out
  pub record HasBegun {R S : Type 0} (graph : GraphView) (evaluation : Evaluation R S) (budget : ℕ) : Type 0 where
    pub rests : IsResting graph evaluation.round (round_view evaluation.round).roots evaluation.first
    pub within : evaluation.first ≤ budget
    pub truth : IsTrueSinceSome next read (round_view evaluation.round).roots evaluation.before.value graph evaluation.round.table

  -- how an evaluation of at most `budget` turns ended, which gives these runs if it ended well
  pub record HasEnded {R S T : Type 0} (evaluation : Evaluation R S) (graph : GraphView) (budget : ℕ) (ended : Result T Stop) (runs_in : T → List Run) : Type 0 where
    pub law : IfOk ended (λ done. Calls next read (round_view evaluation.round).roots evaluation.before.value graph (Ok (runs_in done)))
    pub within : IfOk ended (λ done. turns_of (runs_in done) ≤ budget)
    pub stopped : IfErr ended (λ e. Calls next read (round_view evaluation.round).roots evaluation.before.value graph (Err e))
    pub open_root : IsErrOf ended stop.Budget → HasOpenRoot next read (round_view evaluation.round).roots evaluation.before.value graph
    pub spent : IsErrOf ended stop.Budget → HasTurnToMake next read (round_view evaluation.round).roots evaluation.before.value graph

-- no job is out, and the turns that the host made itself are this many with those that it collected
abbrev pub AreBack : View JobView Outcome → ℕ → ℕ → Type 0
AreBack v made turns = (jobs_out v ≡ 0) × (made + made_in v.collected ≡ turns)

-- all turns are back, if the budget is spent or the evaluation ended well, and then no more workers were made than
-- turns
pub record HasCounted {R S : Type 0} (budget : ℕ) (state : HostState R S) (ended : Result (Vec Run Global) Stop) : Type 0 where
  pub spent : IsErrOf ended stop.Budget → AreBack state.host.seat.me.0 state.own.made budget
  pub done : IfOk ended (λ runs. AreBack state.host.seat.me.0 state.own.made (turns_of runs.items))
  pub few : IfOk ended (λ runs. state.own.made + length state.crew.workers.items ≤ turns_of runs.items)
