use Rattle.std.proofs.Common.{◌≡◌, ◌≤◌, length, drop, map}
use Rattle.evaluator_semantics.specs.Sorting.{in_order}
use Rattle.evaluator_state.specs.View.{target_of}
use Rattle.evaluator_package_calls.proofs.targets.ordered_targets.Given as goal

abbrev pub invariant-loop-i : goal.invariant-loop-i
invariant-loop-i l = record {
  within : l.i ≤ length l.targets;
  sorted : l.set.keys ≡ in_order (λ x. x.name) (map target_of (drop l.i l.targets));
}

abbrev pub decreases-loop-i : goal.decreases-loop-i
decreases-loop-i l = l.i
