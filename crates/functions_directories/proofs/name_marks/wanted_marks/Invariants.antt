use Rattle.std.proofs.Common.{◌≡◌, length, bit_or}
use Rattle.functions_directories.specs.SegmentMarks.{wanted_marks}
use Rattle.functions_directories.proofs.name_marks.wanted_marks.Given as goal

abbrev pub invariant-loop-first : goal.invariant-loop-first
invariant-loop-first l = bit_or l.marks (wanted_marks l.rest) ≡ wanted_marks l.segment

abbrev pub decreases-loop-first : goal.decreases-loop-first
decreases-loop-first l = length l.rest
