use Rattle.std.proofs.Common.{◌≡◌, ◌+◌, ◌<◌, All, length}
use Rattle.std.specs.Prelude.{vec_capacity}
use Rattle.board.specs.Places.{IsHandAtRest}
use Rattle.board.specs.Rule.{total}
use Rattle.pool.specs.Serving.{made_in}
use Rattle.pool.proofs.workers.join_all.Given as goal

abbrev pub invariant-loop-worker : goal.invariant-loop-worker
invariant-loop-worker g l = record {
  here : All (λ w. w.promise.board.now.table.shared.table_id ≡ l.board.table.shared.table_id) l.workers.items;
  rules_long : length l.rules.items + length l.workers.items ≡ length l.fn.crew.rules.items + length l.fn.crew.workers.items;
  hands_long : length l.hands.items ≡ length l.rules.items;
  rules_fit : length l.fn.crew.rules.items + length l.fn.crew.workers.items < vec_capacity l.rules;
  hands_fit : length l.fn.crew.rules.items + length l.fn.crew.workers.items < vec_capacity l.hands;
  seats : All (λ h. IsHandAtRest l.board.table.shared.table_id h.seat) l.hands.items;
  counted : total g.R.Rules.turns l.rules.items + total (λ w. g.R.Rules.turns w.promise.given.value) l.workers.items + total (λ h. made_in h.seat.me.0.answers) l.fn.crew.hands.items
      ≡ total g.R.Rules.turns l.fn.crew.rules.items + total (λ w. g.R.Rules.turns w.promise.given.value) l.fn.crew.workers.items + total (λ h. made_in h.seat.me.0.answers) l.hands.items;
}

abbrev pub decreases-loop-worker : goal.decreases-loop-worker
decreases-loop-worker g l = length l.workers.items
