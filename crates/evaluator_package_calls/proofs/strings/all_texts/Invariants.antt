use Rattle.std.proofs.Common.{◌≡◌, ◌++◌, drop}
use Rattle.values_semantics.specs.Outcome.{then_checked, good}
use Rattle.evaluator_semantics.specs.Globs.{all_texts}
use Rattle.values_heap.specs.View.{store_of}
use Rattle.evaluator_package_calls.proofs.strings.all_texts.Given as goal

abbrev pub invariant-loop-i : goal.invariant-loop-i
invariant-loop-i l = then_checked (all_texts (drop l.i l.xs) (store_of l.heap)) (λ ts. good (l.all.items ++ ts)) ≡ all_texts l.xs (store_of l.heap)
