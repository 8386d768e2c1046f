-- What one step of the host of a pool asks for and does.
use Rattle.std.specs.Prelude.{◌≡◌, ℕ, ◌+◌, ◌<◌, ◌≤◌, Bool, true, List, length, Option, Result, OnOk, OnErr}
use Rattle.board.specs.declared.board.Board.{Board}
use Rattle.board.specs.declared.board.Host.{Host}
use Rattle.engine_semantics.specs.Reply.{Reply}
use Rattle.engine_semantics.specs.Value.{In}
use Rattle.keys.specs.declared.key.Key.{Key}
use Rattle.keys.specs.declared.value.Value.{Value}
use Rattle.node.specs.Graphs.{GraphView}
use Rattle.round.specs.Rounds.{round_view, AgreesWith}
use Rattle.round.specs.declared.rounds.Round.{Round}
use Rattle.pool.specs.Crews.{SameOwn}
use Rattle.pool.specs.Serving.{IsServing, StaysTrueSince, IsAfterStop, jobs_out, given_out, left_out}
use Rattle.pool.specs.declared.host_state.Own.{Own}

-- some place of the board is empty
abbrev pub HasRoom : {R S : Type 0} → Board R S → Host R S → Type 0
HasRoom board host = (length host.seat.me.0.out ≡ board.capacity) × (jobs_out host.seat.me.0 < board.capacity)

-- the round agrees with the graph, and a key is ready
abbrev pub HasReady : {R S : Type 0} → GraphView → Round R S → Type 0
HasReady graph round = AgreesWith graph round × ((k : Key) × In k (round_view round).table.ready.keys)

-- the host has the same hand, has counted one turn more at most, and if it ended well its rules made as many
abbrev pub KeepsOwn : {R S T E : Type 0} → (R → ℕ) → Own R S → Own R S → Result T E → Type 0
KeepsOwn turns old new ended = OnOk ended (SameOwn turns old new) × (new.hand ≡ old.hand) × (new.made ≤ old.made + 1)

-- if it ended well, what was true since an entry is true now, and otherwise the graph is as after a stop
pub record KeepsTruth {R S T E : Type 0} (next : Key → List Value → Reply Key Value) (read : Key → Option Value) (old new : GraphView) (before after : Round R S) (ended : Result T E) : Type 0 where
  pub well : OnOk ended (StaysTrueSince next read old new before.table after.table)
  pub stopped : OnErr ended (IsAfterStop next read old new before.table)

-- a host that served serves now, after a job was handed out, which it posted or made the turn of itself
abbrev pub ServesHandedOut : {R S : Type 0} → GraphView → GraphView → Round R S → Round R S → Host R S → Host R S → ℕ → ℕ → Bool → Type 0
ServesHandedOut old new before after host later own made posted = (roots : List Key) (places hands out handed : ℕ) → IsServing old before host.seat.me.0 roots own places hands out handed → IsServing new after later.seat.me.0 roots made places hands (given_out posted out) (handed + 1)

-- a host that served serves now, after a turn was taken back, if one was
abbrev pub ServesCollected : {R S : Type 0} → GraphView → GraphView → Round R S → Round R S → Host R S → Host R S → Bool → Type 0
ServesCollected old new before after host later took = (roots : List Key) (own places hands out handed : ℕ) → IsServing old before host.seat.me.0 roots own places hands out handed
    → IsServing new after later.seat.me.0 roots own places hands (left_out took out) handed × (took ≡ true → 0 < out)
