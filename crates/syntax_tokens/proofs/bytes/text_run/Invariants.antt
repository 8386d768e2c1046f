use Rattle.std.proofs.Common.{◌≡◌, ◌+◌, drop}
use Rattle.syntax_tokens.specs.Bytes.{run, is_text_byte}
use Rattle.syntax_tokens.proofs.bytes.text_run.Given as goal

abbrev pub invariant-loop-i : goal.invariant-loop-i
invariant-loop-i l = l.i + run is_text_byte (drop l.i l.bytes) ≡ run is_text_byte l.bytes
