use Rattle.std.proofs.Common.{◌-◌, ◌^◌}
use Rattle.keys.specs.Leaves as leaves
use Rattle.round_nodes.specs.TurnCounts.{MakesNoTurn}
use Rattle.round.specs.Frames.{KeepsOthers}
use Rattle.round.specs.Moves.{IsInOrder, KeepsOut, KeepsOpened}
use Rattle.round.proofs.Wanting.{StaysTrue}
use Rattle.round.proofs.visiting.visit_all.Given as goal

abbrev pub invariant-looks : goal.invariant-looks
invariant-looks l = record {
  whole : IsInOrder l.graph l.table;
  out : KeepsOut l.fn.table l.table;
  keeps : KeepsOpened l.fn.graph l.graph l.fn.table l.table;
  turns : MakesNoTurn l.fn.table l.table;
  frame : KeepsOthers l.fn.graph l.graph l.fn.table l.table;
  truth : StaysTrue (leaves.read l.tree) l.fn.graph l.graph l.fn.table l.table;
}

abbrev pub decreases-looks : goal.decreases-looks
decreases-looks l = 2 ^ 64 - l.table.visited
