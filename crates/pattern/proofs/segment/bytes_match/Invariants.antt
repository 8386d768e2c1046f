use Rattle.std.proofs.Common.{◌≡◌, true, length}
use Rattle.pattern.specs.Patterns.{segment_matches, is_star}
use Rattle.pattern.specs.Pieces.{ends_piece}
use Rattle.pattern.proofs.segment.bytes_match.Given as goal

abbrev pub invariant-loop-rest : goal.invariant-loop-rest
invariant-loop-rest l = record {
  ended : ends_piece is_star l.pattern ≡ true;
  same : segment_matches l.fn.pattern l.fn.name ≡ segment_matches l.pattern l.name;
}

abbrev pub decreases-loop-rest : goal.decreases-loop-rest
decreases-loop-rest l = length l.pattern
