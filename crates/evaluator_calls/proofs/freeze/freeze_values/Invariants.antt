use Rattle.std.proofs.Common.{◌≡◌, ◌≤◌, drop}
use Rattle.values_semantics.specs.Outcome.{and_then, gives}
use Rattle.values_heap.specs.View.{store_of}
use Rattle.values_freeze.specs.View.{onto}
use Rattle.evaluator_calls.specs.Freeze.{freeze_values}
use Rattle.evaluator_calls.proofs.freeze.freeze_values.Given as goal

abbrev pub invariant-loop-x : goal.invariant-loop-x
invariant-loop-x l = record {
  rest : and_then (freeze_values (drop l.x-index l.xs) (store_of l.heap)) (λ fs. gives (onto l.all.items fs)) ≡ freeze_values l.xs (store_of l.fn.heap);
  steps : l.heap.steps ≤ l.fn.heap.steps;
}
