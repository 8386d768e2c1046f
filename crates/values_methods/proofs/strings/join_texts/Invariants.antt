use Rattle.std.proofs.Common.{◌≡◌, true, length, drop}
use Rattle.values_semantics.specs.Heap.{is_sized}
use Rattle.values_semantics.specs.Methods.{all_bytes}
use Rattle.values_heap.specs.View.{store_of}
use Rattle.values_methods.specs.Cases.{joined}
use Rattle.values_methods.proofs.Joins.{rest_joined}
use Rattle.values_methods.proofs.strings.join_texts.Given as goal

abbrev pub invariant-loop-x : goal.invariant-loop-x
invariant-loop-x l = (rest_joined l.all.items l.between l.separator (all_bytes (drop l.x-index l.xs) (store_of l.heap)) ≡ joined l.separator l.xs (store_of l.heap)) × (is_sized (length l.all.items) ≡ true)
