use Rattle.std.proofs.Common.{◌≡◌, ◌≤◌, true, length}
use Rattle.pattern.specs.Wild.{some_end}
use Rattle.pattern.specs.Patterns.{segment_matches}
use Rattle.pattern.proofs.segment.piece.Given as goal

abbrev pub invariant-loop-first : goal.invariant-loop-first
invariant-loop-first l = record {
  same : segment_matches l.initial.pattern l.initial.name ≡ segment_matches l.pattern l.name;
  later : some_end (segment_matches l.initial.pattern) l.initial.name ≡ true → some_end (segment_matches l.pattern) l.name ≡ true;
  shorter : length l.pattern ≤ length l.initial.pattern;
}

abbrev pub decreases-loop-first : goal.decreases-loop-first
decreases-loop-first l = length l.pattern
