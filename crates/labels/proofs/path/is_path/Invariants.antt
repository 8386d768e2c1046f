use Rattle.std.proofs.Common.{◌≡◌, Some, drop}
use Rattle.labels.proofs.Reading.{read}
use Rattle.labels.proofs.path.is_path.Given as goal

abbrev pub invariant-loop-i : goal.invariant-loop-i
invariant-loop-i l = read (drop l.i l.bytes) ≡ Some l.found
