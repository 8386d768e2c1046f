use Rattle.std.proofs.Common.{◌≡◌, length}
use Rattle.pattern.specs.Wild.{some_end}
use Rattle.pattern.specs.Parts.{parts}
use Rattle.pattern.specs.Patterns.{path_matches}
use Rattle.pattern.proofs.walk.search.Given as goal

abbrev pub invariant-loop-rest : goal.invariant-loop-rest
invariant-loop-rest l = some_end (path_matches (parts l.pattern)) (parts l.initial.path) ≡ some_end (path_matches (parts l.pattern)) (parts l.path)

abbrev pub decreases-loop-rest : goal.decreases-loop-rest
decreases-loop-rest l = length (parts l.path)
