use Rattle.std.proofs.Common.{◌≡◌, ◌≤◌, drop}
use Rattle.syntax_tokens.specs.Numbers.{decimal, largest}
use Rattle.syntax_tokens.proofs.number.number_of.Given as goal

abbrev pub invariant-loop-b : goal.invariant-loop-b
invariant-loop-b l = (decimal l.value (drop l.b-index l.digits) ≡ decimal 0 l.digits) × (l.value ≤ largest)
