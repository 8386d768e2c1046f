use Rattle.std.proofs.Common.{◌≡◌, ◌++◌}
use Rattle.evaluator_semantics.specs.Sorting.{in_order}
use Rattle.evaluator_package_calls.proofs.ordering.in_order.Given as goal

abbrev pub invariant-loop-text : goal.invariant-loop-text
invariant-loop-text l = l.all.items ++ l.text-iterator ≡ in_order (λ text. text) l.texts
