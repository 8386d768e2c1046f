use Rattle.std.proofs.Common.{◌≡◌, drop}
use Rattle.values_heap.specs.View.{store_of}
use Rattle.evaluator_state.specs.View.{block_of}
use Rattle.evaluator_calls.specs.Thaw.{behind, thaw_names}
use Rattle.evaluator_calls.proofs.thaw.thaw_names.Given as goal

abbrev pub invariant-loop-b : goal.invariant-loop-b
invariant-loop-b l = record {
  rest : behind (block_of l.block) (thaw_names (drop l.b-index l.bindings) (store_of l.heap)) ≡ behind (block_of l.fn.block) (thaw_names l.bindings (store_of l.fn.heap));
  steps : l.heap.steps ≡ l.fn.heap.steps;
}
