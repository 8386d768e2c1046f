use Rattle.std.proofs.Common.{◌≡◌, ◌++◌, drop}
use Rattle.values_semantics.specs.Outcome.{and_then, gives}
use Rattle.values_semantics.specs.Functions.{each_items}
use Rattle.values_heap.specs.View.{store_of}
use Rattle.values_builtins.specs.Results.{lists_of}
use Rattle.values_builtins.proofs.zipping.each_items.Given as goal

abbrev pub invariant-loop-x : goal.invariant-loop-x
invariant-loop-x l =
    and_then (each_items (drop l.x-index l.xs) (store_of l.heap)) (λ ls. gives (lists_of l.lists.items ++ ls)) ≡ each_items l.xs (store_of l.heap)
