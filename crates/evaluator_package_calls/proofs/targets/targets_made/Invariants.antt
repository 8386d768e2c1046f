use Rattle.std.proofs.Common.{◌≡◌, ◌++◌}
use Rattle.evaluator_semantics.specs.Sorting.{in_order}
use Rattle.evaluator_state.specs.View.{world_of}
use Rattle.evaluator_package_calls.proofs.targets.targets_made.Given as goal

abbrev pub invariant-loop-named : goal.invariant-loop-named
invariant-loop-named l = l.all ++ l.named-iterator ≡ in_order (λ x. x.name) (world_of l.state).targets
