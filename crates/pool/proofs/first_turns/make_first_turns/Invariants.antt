use Rattle.std.proofs.Common.{◌≡◌, ◌+◌}
use Rattle.keys.specs.Leaves as leaves
use Rattle.pool.specs.Serving.{StaysTrueSince}
use Rattle.round.specs.Here.{IsResting}
use Rattle.round.specs.Rounds.{round_view}
use Rattle.pool.proofs.first_turns.make_first_turns.Given as goal

abbrev pub invariant-loop-made : goal.invariant-loop-made
invariant-loop-made g l = record {
  resting : IsResting l.graph l.round (round_view l.fn.round).roots l.made;
  truth : StaysTrueSince g.R.Rules.next (leaves.read l.tree) l.fn.graph l.graph l.fn.round.table l.round.table;
  counted : g.R.Rules.turns l.rules ≡ g.R.Rules.turns l.fn.rules + l.made;
}
