use Rattle.std.proofs.Common.{◌≡◌, ◌++◌, drop, map}
use Rattle.values_semantics.specs.Outcome.{and_then, gives}
use Rattle.values_heap.specs.View.{store_of}
use Rattle.evaluator_state.specs.View.{kept_of}
use Rattle.evaluator_calls.specs.Thaw.{thaw_defaults}
use Rattle.evaluator_calls.proofs.thaw.thaw_defaults.Given as goal

abbrev pub invariant-loop-d : goal.invariant-loop-d
invariant-loop-d l = record {
  rest : and_then (thaw_defaults (drop l.d-index l.defaults) (store_of l.heap)) (λ ds. gives (map kept_of l.all.items ++ ds)) ≡ thaw_defaults l.defaults (store_of l.fn.heap);
  steps : l.heap.steps ≡ l.fn.heap.steps;
}
