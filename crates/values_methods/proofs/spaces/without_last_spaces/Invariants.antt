use Rattle.std.proofs.Common.{length, ◌≡◌, reverse}
use Rattle.values_semantics.specs.Methods.{without_spaces}
use Rattle.values_methods.proofs.spaces.without_last_spaces.Given as goal

abbrev pub invariant-loop-byte : goal.invariant-loop-byte
invariant-loop-byte l = without_spaces (reverse l.rest) ≡ without_spaces (reverse l.whole)

abbrev pub decreases-loop-byte : goal.decreases-loop-byte
decreases-loop-byte l = length l.rest
