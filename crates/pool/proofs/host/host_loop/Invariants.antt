use Rattle.std.proofs.Common.{◌≤◌, ◌+◌, length}
use Rattle.keys.specs.Leaves as leaves
use Rattle.pool.specs.Crews.{SameOwn}
use Rattle.pool.specs.HostStates.{AreNewHands, KeepsState}
use Rattle.pool.specs.Serving.{IsServing}
use Rattle.round.specs.Rounds.{round_view}
use Rattle.round.specs.Since.{IsTrueSinceSome}
use Rattle.pool.proofs.host.host_loop.Given as goal

abbrev pub invariant-loop : goal.invariant-loop
invariant-loop g l = record {
  state : KeepsState g.R.Rules.turns l.context.board.now l.fn.state (record { host = l.host; crew = l.crew; own = l.own });
  serving : IsServing l.graph l.round l.host.seat.me.0 (round_view l.fn.evaluation.round).roots l.own.made l.context.board.now.capacity l.fn.state.host.seat.me.0.hands l.out l.handed;
  within : l.handed ≤ l.context.budget;
  truth : IsTrueSinceSome g.R.Rules.next (leaves.read l.context.tree.now) (round_view l.fn.evaluation.round).roots l.fn.evaluation.before.value l.graph l.round.table;
  new : AreNewHands l.context.board.now l.crew.hands.items;
  few : l.own.made + length l.crew.workers.items ≤ l.handed;
  own : SameOwn g.R.Rules.turns l.fn.state.own l.own;
}
