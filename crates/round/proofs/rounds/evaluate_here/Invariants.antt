use Rattle.std.proofs.Common.{◌≡◌, ◌+◌}
use Rattle.keys.specs.Leaves as leaves
use Rattle.round.specs.Here.{IsResting}
use Rattle.round.specs.Since.{IsTrueSinceSome}
use Rattle.round.proofs.rounds.evaluate_here.Given as goal

abbrev pub invariant-loop-made : goal.invariant-loop-made
invariant-loop-made g l = record {
  resting : IsResting l.graph l.round l.fn.roots l._made;
  truth : IsTrueSinceSome g.R.Rules.next (leaves.read l.tree) l.fn.roots l.fn.graph l.graph l.round.table;
  counted : g.R.Rules.turns l.rules ≡ g.R.Rules.turns l.fn.rules + l._made;
}
