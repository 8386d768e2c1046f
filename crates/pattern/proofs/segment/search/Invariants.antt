use Rattle.std.proofs.Common.{◌≡◌, length}
use Rattle.pattern.specs.Wild.{some_end}
use Rattle.pattern.specs.Patterns.{segment_matches}
use Rattle.pattern.proofs.segment.search.Given as goal

abbrev pub invariant-loop-rest : goal.invariant-loop-rest
invariant-loop-rest l = some_end (segment_matches l.pattern) l.initial.name ≡ some_end (segment_matches l.pattern) l.name

abbrev pub decreases-loop-rest : goal.decreases-loop-rest
decreases-loop-rest l = length l.name
