use Rattle.std.proofs.Common.{◌≡◌, ◌+◌, ◌≤◌, ◌<◌, ℕ, get_or, drop}
use Rattle.syntax_tokens.specs.Reading.{foreign}
use Rattle.syntax_tokens.proofs.lexer.first_non_ascii.Given as goal

abbrev pub invariant-loop-b : goal.invariant-loop-b
invariant-loop-b l = (foreign l.line (drop l.b-index l.text) ≡ foreign 1 l.text) × (l.line ≤ l.b-index + 1) × ((k : ℕ) → k < l.b-index → get_or l.text k 0 < 128)
