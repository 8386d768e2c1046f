use Rattle.std.proofs.Common.{◌≡◌, ap, arith}
use Rattle.syntax_grammar.specs.Statements.{stmt}
use Rattle.syntax_expressions.specs.View.{rest_of}
use Rattle.syntax.proofs.Turns.{one_level}
use Rattle.syntax.proofs.statement.+stmt.Goals as goal

pub returns-then-depth-eq0 : goal.returns-then-depth-eq0
unfolding stmt
returns-then-depth-eq0 t c = let none : c.args.depth ≡ 0 = omega arith in ap (λ n. stmt n c.args.within (rest_of c.args.t.now)) none

pub returns : goal.returns
unfolding stmt
returns t c = rw (one_level (λ n. stmt n c.args.within (rest_of c.args.t.now)) c.args.depth (omega arith)) c.statement.ensures
