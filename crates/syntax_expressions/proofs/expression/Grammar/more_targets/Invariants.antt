use Rattle.std.proofs.Common.{◌≡◌, ◌-◌, map}
use Rattle.syntax_tree.specs.View.{tree_of}
use Rattle.syntax_expressions.specs.View.{rest_of}
use Rattle.syntax_grammar.specs.Expressions.{expr, more_targets, targets_after}
use Rattle.syntax_expressions.proofs.expression.Grammar.more_targets.Given as goal

abbrev pub invariant-loop-turn : goal.invariant-loop-turn
invariant-loop-turn g l = more_targets (expr l.self.depth) (tree_of l.fn.first) (rest_of l.fn.t) ≡ targets_after (expr l.self.depth) (l._turn-end - l._turn) (map tree_of l.found.items) (rest_of l.t)
