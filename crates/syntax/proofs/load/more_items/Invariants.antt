use Rattle.std.proofs.Common.{◌≡◌, ◌-◌, map}
use Rattle.syntax_tree.specs.Statements.{item_of}
use Rattle.syntax_expressions.specs.View.{rest_of}
use Rattle.syntax_grammar.specs.Files.{more_items, items_after}
use Rattle.syntax.proofs.load.more_items.Given as goal

abbrev pub invariant-loop-turn : goal.invariant-loop-turn
invariant-loop-turn l = more_items (item_of l.fn.first) (rest_of l.fn.t) ≡ items_after (l._turn-end - l._turn) (map item_of l.found.items) (rest_of l.t)
