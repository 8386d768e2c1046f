-- The hands of a pool: those of workers, those that are left for further workers, and the host's own.
use Rattle.std.specs.Prelude.{◌≡◌, ℕ, ◌+◌, ◌<◌, ◌≤◌, All, length, vec_capacity}
use Rattle.atomic_table.specs.Seated.{TableId}
use Rattle.board.specs.Places.{IsHandAtRest}
use Rattle.board.specs.Rule.{total}
use Rattle.pool.specs.Serving.{made_in}
use Rattle.pool.specs.declared.workers.Workers.{Workers}
use Rattle.pool.specs.declared.host_state.Own.{Own}

-- each worker is at this board, each of the others has a hand of it, and there is room for all of them and the host's
-- own
pub record IsCrew {R S : Type 0} (id : TableId) (crew : Workers R S) : Type 0 where
  pub paired : length crew.hands.items ≡ length crew.rules.items
  pub here : All (λ w. w.promise.board.now.table.shared.table_id ≡ id) crew.workers.items
  pub seats : All (λ h. IsHandAtRest id h.seat) crew.hands.items
  pub rules_fit : length crew.rules.items + length crew.workers.items < vec_capacity crew.rules
  pub hands_fit : length crew.rules.items + length crew.workers.items < vec_capacity crew.hands
  pub workers_fit : length crew.rules.items + length crew.workers.items ≤ vec_capacity crew.workers

-- as many are in it, and their rules have made the turns that their hands answered
pub record SameCrew {R S : Type 0} (turns : R → ℕ) (before after : Workers R S) : Type 0 where
  pub sized : length after.rules.items + length after.workers.items ≡ length before.rules.items + length before.workers.items
  pub counted : total turns after.rules.items + total (λ w. turns w.promise.given.value) after.workers.items + total (λ h. made_in h.seat.me.0.answers) before.hands.items
      ≡ total turns before.rules.items + total (λ w. turns w.promise.given.value) before.workers.items + total (λ h. made_in h.seat.me.0.answers) after.hands.items

-- the host's own rules have made the turns that it has counted, and those that its hand answered
abbrev pub SameOwn : {R S : Type 0} (turns : R → ℕ) → Own R S → Own R S → Type 0
SameOwn turns before after = turns after.rules + before.made + made_in before.hand.seat.me.0.answers ≡ turns before.rules + after.made + made_in after.hand.seat.me.0.answers
