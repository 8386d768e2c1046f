use Rattle.syntax_tokens.proofs.Foreign.{none_foreign}
use Rattle.syntax_tokens.proofs.lexer.first_non_ascii.Goals as goal

pub returns-then-highest-lt128-clause-exact : goal.returns-then-highest-lt128-clause-exact
returns-then-highest-lt128-clause-exact c = none_foreign c.highest.result 1 c.args.text.now c.highest.ensures c.if-highest-lt128.true
