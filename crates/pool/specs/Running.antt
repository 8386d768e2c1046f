-- What comes back from the workers of a pool.
use Rattle.std.specs.Prelude.{◌≡◌, ℕ, ◌+◌, List, [], All, length, Option, IfOk, OnOk, IsErrOf}
use Rattle.board.specs.Places.{IsHandAtRest}
use Rattle.board.specs.Rule.{total}
use Rattle.board.specs.declared.board.Board.{Board}
use Rattle.engine_semantics.specs.Reply.{Reply}
use Rattle.keys.specs.declared.key.Key.{Key}
use Rattle.keys.specs.declared.value.Value.{Value}
use Rattle.round_nodes.specs.TurnCounts.{turns_of}
use Rattle.pool.specs.Evaluations.{HasEnded, AreBack}
use Rattle.pool.specs.HostStates.{IsHostOf}
use Rattle.pool.specs.Serving.{made_in}
use Rattle.pool.specs.declared.context.Evaluation.{Evaluation}
use Rattle.pool.specs.declared.evaluations.ScopeResult.{ScopeResult}
use Rattle.round.specs.declared.stop.Stop.TheVariants as stop

-- the evaluation, of which the first turns were made, by these rules, in at most `budget` turns
pub record HasRun {R S : Type 0} (next : Key → List Value → Reply Key Value) (turns : R → ℕ) (read : Key → Option Value) (board : Board R S) (evaluation : Evaluation R S) (given : List R) (budget : ℕ) (ran : ScopeResult R S) : Type 0 where
  pub ended : HasEnded next read evaluation ran.graph budget ran.ended (λ runs. runs.items)
  -- if the budget is spent, all jobs are back, and their turns are as many
  pub made_all : IsErrOf ran.ended stop.Budget → AreBack ran.seats.host.seat.me.0 ran.made budget
  -- the host and the hands are at rest, whatever it ended with
  pub host_rests : IsHostOf board ran.seats.host
  pub hands_rest : All (λ h. IsHandAtRest board.table.shared.table_id h.seat) ran.seats.hands.items
  pub staffed : (length ran.seats.hands.items ≡ length given) × (ran.seats.host.seat.me.0.hands ≡ length given) × (length ran.seats.rules.items ≡ length given)
  pub sized : (length ran.seats.host.seat.me.0.out ≡ board.capacity) × (ran.seats.host.seat.me.0.answers ≡ [])
  -- no job is out, and the turns that the host made itself with those that were collected are the turns of the runs
  pub done : IfOk ran.ended (λ runs. AreBack ran.seats.host.seat.me.0 ran.made (turns_of runs.items))
  -- the rules made the turns that the host made itself after the first ones, and those that the hands answered
  pub made : OnOk ran.ended (evaluation.first + total turns ran.seats.rules.items ≡ total turns given + ran.made + total (λ h. made_in h.seat.me.0.answers) ran.seats.hands.items)
