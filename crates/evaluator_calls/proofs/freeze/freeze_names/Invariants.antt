use Rattle.std.proofs.Common.{◌≡◌, ◌≤◌, ◌++◌, drop}
use Rattle.values_semantics.specs.Outcome.{and_then, gives}
use Rattle.values_heap.specs.View.{store_of}
use Rattle.evaluator_state.specs.View.{block_view}
use Rattle.evaluator_calls.specs.Freeze.{freeze_names, slot_names}
use Rattle.evaluator_calls.proofs.freeze.freeze_names.Given as goal

abbrev pub invariant-loop-slot : goal.invariant-loop-slot
invariant-loop-slot l = record {
  rest : and_then (freeze_names (block_view l.block) (slot_names (drop l.slot-index l.names)) (store_of l.heap)) (λ fs. gives (l.all.items ++ fs)) ≡ freeze_names (block_view l.block) (slot_names l.names) (store_of l.fn.heap);
  steps : l.heap.steps ≤ l.fn.heap.steps;
}
