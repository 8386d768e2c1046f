use Rattle.std.proofs.Common.{◌≡◌, drop}
use Rattle.syntax_tokens.specs.Escapes.{has_escape}
use Rattle.syntax_tokens.proofs.value.has_escape.Given as goal

abbrev pub invariant-loop-b : goal.invariant-loop-b
invariant-loop-b l = has_escape (drop l.b-index l.written) ≡ has_escape l.written
