use Rattle.std.proofs.Common.{◌≡◌, ◌++◌, drop, map}
use Rattle.values_semantics.specs.Outcome.{then_checked, good}
use Rattle.values_heap.specs.View.{store_of}
use Rattle.evaluator_state.specs.View.{attributed_of}
use Rattle.evaluator_package_calls.specs.RuleArguments.{read_fields}
use Rattle.evaluator_package_calls.proofs.attributes.all_read.Given as goal

abbrev pub invariant-loop-field : goal.invariant-loop-field
invariant-loop-field l = then_checked (read_fields l.package_name (drop l.field-index l.fields) l.slots (store_of l.heap)) (λ more. good (map attributed_of l.all.items ++ more)) ≡ read_fields l.package_name l.fields l.slots (store_of l.heap)
