use Rattle.std.proofs.Common.{◌≡◌, length, bit_or}
use Rattle.keys.specs.Marks.{pair_marks}
use Rattle.keys.proofs.marks.pair_marks.Given as goal

abbrev pub invariant-loop-first : goal.invariant-loop-first
invariant-loop-first l = bit_or l.marks (pair_marks l.rest) ≡ pair_marks l.name

abbrev pub decreases-loop-first : goal.decreases-loop-first
decreases-loop-first l = length l.rest
