use Rattle.std.proofs.Common.{arith}
use Rattle.syntax_tokens.proofs.Numbers.{too_large}
use Rattle.syntax_tokens.proofs.number.number_of.Goals as goal

pub returns-then-value-digit-clause-exact : goal.returns-then-value-digit-clause-exact
returns-then-value-digit-clause-exact c = too_large c.loop-b.value c.loop-b.b-index c.args.digits.now c.loop-b.invariant.0 (omega arith) (omega arith)
