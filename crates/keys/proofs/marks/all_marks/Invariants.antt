use Rattle.std.proofs.Common.{◌≡◌, ◌++◌, drop, map}
use Rattle.keys.specs.Marks.{pair_marks}
use Rattle.keys.proofs.marks.all_marks.Given as goal

abbrev pub invariant-loop-name : goal.invariant-loop-name
invariant-loop-name l = l.all.items ++ map pair_marks (drop l.name-index l.names) ≡ map pair_marks l.names
