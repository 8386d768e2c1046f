use Rattle.std.proofs.Common.{◌≡◌, ◌≤◌, length, drop}
use Rattle.evaluator_semantics.specs.Sorting.{in_order}
use Rattle.loader_replies.specs.Answers.{public_names}
use Rattle.loader_replies.proofs.module_json.public_names.Given as goal

abbrev pub invariant-loop-i : goal.invariant-loop-i
invariant-loop-i l = record {
  within : l.i ≤ length l.bindings;
  sorted : l.set.keys ≡ in_order (λ x. x) (public_names (drop l.i l.bindings));
}

abbrev pub decreases-loop-i : goal.decreases-loop-i
decreases-loop-i l = l.i
