use Rattle.std.proofs.Common.{◌≡◌, drop}
use Rattle.values_heap.specs.View.{store_of}
use Rattle.values_methods.specs.Cases.{are_texts}
use Rattle.values_methods.proofs.strings.check_texts.Given as goal

abbrev pub invariant-loop-x : goal.invariant-loop-x
invariant-loop-x l = are_texts (drop l.x-index l.xs) (store_of l.heap) ≡ are_texts l.xs (store_of l.heap)
