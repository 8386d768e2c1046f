use Rattle.std.proofs.Common.{◌≡◌, ◌≤◌, length, drop}
use Rattle.evaluator_semantics.specs.Sorting.{in_order}
use Rattle.evaluator_package_calls.proofs.ordering.ordered_set.Given as goal

abbrev pub invariant-loop-i : goal.invariant-loop-i
invariant-loop-i l = record {
  within : l.i ≤ length l.texts;
  sorted : l.set.keys ≡ in_order (λ text. text) (drop l.i l.texts);
}

abbrev pub decreases-loop-i : goal.decreases-loop-i
decreases-loop-i l = l.i
