use Rattle.std.proofs.Common.{◌≡◌, true, length}
use Rattle.pattern.specs.Parts.{parts}
use Rattle.pattern.specs.Patterns.{path_matches, is_double_star}
use Rattle.pattern.specs.Pieces.{ends_piece}
use Rattle.pattern.proofs.walk.segments_match.Given as goal

abbrev pub invariant-loop-rest : goal.invariant-loop-rest
invariant-loop-rest l = record {
  ended : ends_piece is_double_star (parts l.pattern) ≡ true;
  same : path_matches (parts l.fn.pattern) (parts l.fn.path) ≡ path_matches (parts l.pattern) (parts l.path);
}

abbrev pub decreases-loop-rest : goal.decreases-loop-rest
decreases-loop-rest l = length (parts l.pattern)
