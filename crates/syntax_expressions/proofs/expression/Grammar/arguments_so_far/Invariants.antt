use Rattle.std.proofs.Common.{◌≡◌, ◌-◌}
use Rattle.syntax_expressions.specs.Parts.{arguments_of}
use Rattle.syntax_expressions.specs.View.{rest_of}
use Rattle.syntax_grammar.specs.Expressions.{expr, arguments_so_far, arguments_after}
use Rattle.syntax_expressions.proofs.expression.Grammar.arguments_so_far.Given as goal

abbrev pub invariant-loop-turn : goal.invariant-loop-turn
invariant-loop-turn g l = arguments_so_far (expr l.self.depth) (rest_of l.fn.t) ≡ arguments_after (expr l.self.depth) (l._turn-end - l._turn) (arguments_of l.found) (rest_of l.t)
