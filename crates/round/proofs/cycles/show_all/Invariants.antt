use Rattle.std.proofs.Common.{take}
use Rattle.std.specs.Arc.{arc_value}
use Rattle.round.specs.Showing.{ShowsAll}
use Rattle.round.proofs.cycles.show_all.Given as goal

abbrev pub invariant-loop-key : goal.invariant-loop-key
invariant-loop-key l = ShowsAll l.fn.shown l.shown (take l.key-index l.path) (arc_value l.value)
