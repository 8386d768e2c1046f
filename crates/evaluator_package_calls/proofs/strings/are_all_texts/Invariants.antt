use Rattle.std.proofs.Common.{◌≡◌, drop}
use Rattle.evaluator_package_calls.specs.Lists.{tested}
use Rattle.evaluator_semantics.specs.Globs.{all_texts}
use Rattle.values_heap.specs.View.{store_of}
use Rattle.evaluator_package_calls.proofs.strings.are_all_texts.Given as goal

abbrev pub invariant-loop-i : goal.invariant-loop-i
invariant-loop-i l = tested (all_texts (drop l.i l.xs) (store_of l.heap)) ≡ tested (all_texts l.xs (store_of l.heap))
