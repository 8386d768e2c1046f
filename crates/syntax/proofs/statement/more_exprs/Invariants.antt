use Rattle.std.proofs.Common.{◌≡◌, ◌-◌, map}
use Rattle.syntax_tree.specs.View.{tree_of}
use Rattle.syntax_expressions.specs.View.{rest_of}
use Rattle.syntax_grammar.specs.Statements.{exprs_after, more_exprs}
use Rattle.syntax.proofs.statement.more_exprs.Given as goal

abbrev pub invariant-loop-turn : goal.invariant-loop-turn
invariant-loop-turn l = more_exprs (tree_of l.fn.first) (rest_of l.fn.t) ≡ exprs_after (l._turn-end - l._turn) (map tree_of l.found.items) (rest_of l.t)
