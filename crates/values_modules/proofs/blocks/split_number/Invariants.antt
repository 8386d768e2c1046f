use Rattle.std.proofs.Common.{◌≡◌, ◌+◌, length}
use Rattle.values_modules.specs.Blocks.{number_in, after_number}
use Rattle.values_modules.proofs.blocks.split_number.Given as goal

abbrev pub invariant-loop-rest : goal.invariant-loop-rest
invariant-loop-rest l = record {
  number : l.number + number_in l.rest ≡ number_in l.bytes;
  after : after_number l.rest ≡ after_number l.bytes;
}

abbrev pub decreases-loop-rest : goal.decreases-loop-rest
decreases-loop-rest l = length l.rest
