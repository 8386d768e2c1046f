use Rattle.std.proofs.Common.{◌≡◌, ◌+◌, drop}
use Rattle.syntax_tokens.specs.Bytes.{run, is_name_byte}
use Rattle.syntax_tokens.proofs.bytes.name_run.Given as goal

abbrev pub invariant-loop-i : goal.invariant-loop-i
invariant-loop-i l = l.i + run is_name_byte (drop l.i l.bytes) ≡ run is_name_byte l.bytes
