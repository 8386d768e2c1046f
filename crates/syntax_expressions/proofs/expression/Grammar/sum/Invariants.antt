use Rattle.std.proofs.Common.{◌≡◌, ◌-◌}
use Rattle.syntax_tree.specs.View.{tree_of}
use Rattle.syntax_expressions.specs.View.{rest_of}
use Rattle.syntax_grammar.specs.declared.kind.Rank.TheVariants as r
use Rattle.syntax_grammar.specs.Expressions.{expr, term, sum, chain_after}
use Rattle.syntax_expressions.proofs.expression.Grammar.sum.Given as goal

abbrev pub invariant-loop-turn : goal.invariant-loop-turn
invariant-loop-turn g l = sum (expr l.self.depth) (rest_of l.fn.t) ≡ chain_after (term (expr l.self.depth)) r.Sum (l._turn-end - l._turn) (tree_of l.whole) (rest_of l.t)
