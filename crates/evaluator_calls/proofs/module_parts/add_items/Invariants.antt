use Rattle.std.proofs.Common.{◌≡◌, ◌++◌, drop, map}
use Rattle.evaluator_semantics.specs.Files.{frozen_items}
use Rattle.syntax_tree.specs.Statements.{item_of}
use Rattle.evaluator_calls.proofs.module_parts.add_items.Given as goal

abbrev pub invariant-loop-item : goal.invariant-loop-item
invariant-loop-item l = l.all.items ++ frozen_items l.body (map item_of (drop l.item-index l.items)) ≡ l.fn.all.items ++ frozen_items l.body (map item_of l.items)
