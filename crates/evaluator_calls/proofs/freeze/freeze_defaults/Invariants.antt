use Rattle.std.proofs.Common.{◌≡◌, ◌≤◌, ◌++◌, drop, map}
use Rattle.values_semantics.specs.Outcome.{and_then, gives}
use Rattle.values_heap.specs.View.{store_of}
use Rattle.evaluator_semantics.specs.Names.{names_at}
use Rattle.evaluator_semantics.specs.Environment.{defs}
use Rattle.syntax_tree.specs.Statements.{top_of}
use Rattle.evaluator_calls.specs.Freeze.{freeze_defaults}
use Rattle.evaluator_calls.proofs.freeze.freeze_defaults.Given as goal

abbrev pub invariant-loop-top : goal.invariant-loop-top
invariant-loop-top l = let names = names_at l.label l.files in record {
  rest : and_then (freeze_defaults names (defs (map top_of (drop l.top-index l.tops))) (store_of l.heap)) (λ ds. gives (l.all.items ++ ds)) ≡ freeze_defaults names (defs (map top_of l.tops)) (store_of l.fn.heap);
  steps : l.heap.steps ≤ l.fn.heap.steps;
}
