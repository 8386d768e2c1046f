use Rattle.std.proofs.Common.{◌≡◌, ◌≤◌, true, length}
use Rattle.pattern.specs.Wild.{some_end}
use Rattle.pattern.specs.Parts.{parts}
use Rattle.pattern.specs.Patterns.{path_matches}
use Rattle.pattern.proofs.walk.piece.Given as goal

abbrev pub invariant-loop-first : goal.invariant-loop-first
invariant-loop-first l = record {
  same : path_matches (parts l.initial.pattern) (parts l.initial.path) ≡ path_matches (parts l.pattern) (parts l.path);
  later : some_end (path_matches (parts l.initial.pattern)) (parts l.initial.path) ≡ true → some_end (path_matches (parts l.pattern)) (parts l.path) ≡ true;
  shorter : length (parts l.pattern) ≤ length (parts l.initial.pattern);
}

abbrev pub decreases-loop-first : goal.decreases-loop-first
decreases-loop-first l = length (parts l.pattern)
