use Rattle.std.proofs.Common.{◌≡◌, length}
use Rattle.pattern.specs.Patterns.{has_two_stars}
use Rattle.pattern.proofs.pattern.has_two_stars.Given as goal

abbrev pub invariant-loop-first : goal.invariant-loop-first
invariant-loop-first l = has_two_stars l.segment ≡ has_two_stars l.left

abbrev pub decreases-loop-first : goal.decreases-loop-first
decreases-loop-first l = length l.left
