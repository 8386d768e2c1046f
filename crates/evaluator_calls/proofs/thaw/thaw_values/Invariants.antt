use Rattle.std.proofs.Common.{◌≡◌, ◌++◌, drop}
use Rattle.values_semantics.specs.Outcome.{and_then, gives}
use Rattle.values_semantics.specs.Freezing.{thaw_members}
use Rattle.values_heap.specs.View.{store_of}
use Rattle.values_freeze.specs.View.{members_of}
use Rattle.evaluator_calls.proofs.thaw.thaw_values.Given as goal

abbrev pub invariant-loop-f : goal.invariant-loop-f
invariant-loop-f l = record {
  rest : and_then (thaw_members (members_of (drop l.f-index l.values)) (store_of l.heap)) (λ xs. gives (l.all.items ++ xs)) ≡ thaw_members (members_of l.values) (store_of l.fn.heap);
  steps : l.heap.steps ≡ l.fn.heap.steps;
}
