use Rattle.std.proofs.Common.{◌≡◌, ◌+◌}
use Rattle.board.specs.Places.{IsHandAtRest}
use Rattle.pool.specs.Serving.{made_in}
use Rattle.pool.proofs.worker.worker_loop.Given as goal

abbrev pub invariant-loop : goal.invariant-loop
invariant-loop g l = IsHandAtRest l.board.table.shared.table_id l.hand.seat × (g.R.Rules.turns l.rules ≡ g.R.Rules.turns l.fn.rules + made_in l.hand.seat.me.0.answers)
