use Rattle.std.proofs.Common.{◌≡◌, ◌-◌, map}
use Rattle.syntax_tree.specs.View.{tree_of}
use Rattle.syntax_expressions.specs.View.{rest_of}
use Rattle.syntax_grammar.specs.Expressions.{expr, items, items_after}
use Rattle.syntax_expressions.proofs.expression.Grammar.items.Given as goal

abbrev pub invariant-loop-turn : goal.invariant-loop-turn
invariant-loop-turn g l = items (expr l.self.depth) l.closer (tree_of l.fn.first) (rest_of l.fn.t) ≡ items_after (expr l.self.depth) l.closer (l._turn-end - l._turn) (map tree_of l.found.items) (rest_of l.t)
