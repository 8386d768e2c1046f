use Rattle.std.proofs.Common.{◌≡◌, drop}
use Rattle.evaluator_package_calls.specs.Lists.{tested}
use Rattle.values_heap.specs.View.{store_of}
use Rattle.evaluator_package_calls.specs.RuleArguments.{typed_fields}
use Rattle.evaluator_package_calls.proofs.attributes.are_typed.Given as goal

abbrev pub invariant-loop-field : goal.invariant-loop-field
invariant-loop-field l = tested (typed_fields (drop l.field-index l.fields) l.slots (store_of l.heap)) ≡ tested (typed_fields l.fields l.slots (store_of l.heap))
