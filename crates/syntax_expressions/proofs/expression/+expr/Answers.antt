use Rattle.std.proofs.Common.{◌≡◌, ap, arith}
use Rattle.syntax_grammar.specs.Expressions.{expr}
use Rattle.syntax_expressions.specs.View.{rest_of}
use Rattle.syntax_expressions.proofs.Turns.{one_level}
use Rattle.syntax_expressions.proofs.expression.+expr.Goals as goal

pub returns-then-depth-eq0 : goal.returns-then-depth-eq0
unfolding expr
returns-then-depth-eq0 t c = let none : c.args.depth ≡ 0 = omega arith in ap (λ n. expr n c.args.kind (rest_of c.args.t.now)) none

pub returns : goal.returns
unfolding expr
returns t c = rw (one_level (λ n. expr n c.args.kind (rest_of c.args.t.now)) c.args.depth (omega arith)) c.of_kind.ensures
