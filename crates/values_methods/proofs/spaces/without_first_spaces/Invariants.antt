use Rattle.std.proofs.Common.{length, ◌≡◌}
use Rattle.values_semantics.specs.Methods.{without_spaces}
use Rattle.values_methods.proofs.spaces.without_first_spaces.Given as goal

abbrev pub invariant-loop-byte : goal.invariant-loop-byte
invariant-loop-byte l = without_spaces l.rest ≡ without_spaces l.whole

abbrev pub decreases-loop-byte : goal.decreases-loop-byte
decreases-loop-byte l = length l.rest
