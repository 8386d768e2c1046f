use Rattle.std.proofs.Common.{◌≡◌, ◌-◌}
use Rattle.syntax_tree.specs.View.{tree_of}
use Rattle.syntax_expressions.specs.View.{rest_of}
use Rattle.syntax_grammar.specs.declared.kind.Rank.TheVariants as r
use Rattle.syntax_grammar.specs.Expressions.{expr, unary, term, chain_after}
use Rattle.syntax_expressions.proofs.expression.Grammar.term.Given as goal

abbrev pub invariant-loop-turn : goal.invariant-loop-turn
invariant-loop-turn g l = term (expr l.self.depth) (rest_of l.fn.t) ≡ chain_after (unary (expr l.self.depth)) r.Term (l._turn-end - l._turn) (tree_of l.whole) (rest_of l.t)
