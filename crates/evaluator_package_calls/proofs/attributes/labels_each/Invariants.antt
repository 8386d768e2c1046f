use Rattle.std.proofs.Common.{◌≡◌, ◌++◌, drop}
use Rattle.values_semantics.specs.Outcome.{then_checked, good}
use Rattle.values_heap.specs.View.{store_of}
use Rattle.evaluator_package_calls.specs.RuleArguments.{labels_each}
use Rattle.evaluator_package_calls.proofs.attributes.labels_each.Given as goal

abbrev pub invariant-loop-i : goal.invariant-loop-i
invariant-loop-i l = then_checked (labels_each l.package_name (drop l.i l.members) (store_of l.heap)) (λ ls. good (l.all.items ++ ls)) ≡ labels_each l.package_name l.members (store_of l.heap)
