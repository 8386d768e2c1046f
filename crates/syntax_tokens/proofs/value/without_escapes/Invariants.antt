use Rattle.std.proofs.Common.{◌≡◌, ◌++◌, drop, string_bytes}
use Rattle.syntax_tokens.specs.Strings.{unescaped, unescaped_after}
use Rattle.syntax_tokens.proofs.value.without_escapes.Given as goal

abbrev pub invariant-loop-b : goal.invariant-loop-b
invariant-loop-b l = string_bytes l.out ++ unescaped_after l.escaped (drop l.b-index l.bytes) ≡ unescaped l.bytes
