use Rattle.std.proofs.Common.{drop, map}
use Rattle.syntax_tree.specs.Bindings.{item_names}
use Rattle.syntax_tree.specs.Statements.{item_of}
use Rattle.syntax_bindings.proofs.Finds.{Left}
use Rattle.syntax_bindings.proofs.gathering.find_items.Given as goal

abbrev pub invariant-loop-item : goal.invariant-loop-item
invariant-loop-item l = Left l.fn.found (item_names (map item_of l.items)) l.found (item_names (map item_of (drop l.item-index l.items)))
