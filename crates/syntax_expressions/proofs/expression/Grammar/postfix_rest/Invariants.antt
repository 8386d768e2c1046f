use Rattle.std.proofs.Common.{◌≡◌, ◌-◌}
use Rattle.syntax_tree.specs.View.{tree_of}
use Rattle.syntax_expressions.specs.View.{rest_of}
use Rattle.syntax_grammar.specs.Expressions.{expr, postfix_rest, postfix_after}
use Rattle.syntax_expressions.proofs.expression.Grammar.postfix_rest.Given as goal

abbrev pub invariant-loop-turn : goal.invariant-loop-turn
invariant-loop-turn g l = postfix_rest (expr l.self.depth) (tree_of l.fn.first) (rest_of l.fn.t) ≡ postfix_after (expr l.self.depth) (l._turn-end - l._turn) (tree_of l.whole) (rest_of l.t)
