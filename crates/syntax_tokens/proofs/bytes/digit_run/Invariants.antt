use Rattle.std.proofs.Common.{◌≡◌, ◌+◌, drop}
use Rattle.syntax_tokens.specs.Bytes.{run, is_digit}
use Rattle.syntax_tokens.proofs.bytes.digit_run.Given as goal

abbrev pub invariant-loop-i : goal.invariant-loop-i
invariant-loop-i l = l.i + run is_digit (drop l.i l.bytes) ≡ run is_digit l.bytes
