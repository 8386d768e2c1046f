use Rattle.std.proofs.Common.{◌≡◌, ◌≤◌, ◌+◌, ◌++◌, ℕ, List, true, drop}
use Rattle.values_heap.specs.View.{store_of}
use Rattle.values_modules.specs.Values.{Target}
use Rattle.evaluator_semantics.specs.World.{then_runs, pure}
use Rattle.evaluator_semantics.specs.Environment.{Env}
use Rattle.evaluator_semantics.specs.Expressions.{Call, values}
use Rattle.syntax_tree.specs.View.{tree_of, trees_of, bound_tree}
use Rattle.evaluator_state.specs.View.{here_of}
use Rattle.evaluator_state.specs.Scope.{world_in, is_free}
use Rattle.evaluator_direct.specs.Quiet.{quiets}
use Rattle.evaluator_direct.proofs.Size.{size, sizes, bound_size}
use Rattle.evaluator_direct.proofs.evaluating.+values.Given as goal

abbrev pub decreases-value : goal.decreases-value
decreases-value l = size (tree_of l.e.now)

abbrev pub decreases-values : goal.decreases-values
decreases-values l = sizes (trees_of l.es.now) + 1

abbrev pub decreases-tuple : goal.decreases-tuple
decreases-tuple l = sizes (trees_of l.es.now) + 2

abbrev pub decreases-list : goal.decreases-list
decreases-list l = sizes (trees_of l.es.now) + 2

abbrev pub decreases-operated : goal.decreases-operated
decreases-operated l = size (tree_of l.a.now) + 2

abbrev pub decreases-second : goal.decreases-second
decreases-second l = size (tree_of l.b.now) + 1

abbrev pub decreases-between : goal.decreases-between
decreases-between l = size (tree_of l.a.now) + size (tree_of l.b.now) + 2

abbrev pub decreases-choice : goal.decreases-choice
decreases-choice l = size (tree_of l.a.now) + size (tree_of l.c.now) + size (tree_of l.b.now) + 2

abbrev pub decreases-member : goal.decreases-member
decreases-member l = size (tree_of l.a.now) + size (tree_of l.i.now) + 2

abbrev pub decreases-part : goal.decreases-part
decreases-part l = size (tree_of l.a.now) + bound_size (bound_tree l.i.now) + bound_size (bound_tree l.j.now) + 2

abbrev pub decreases-bound_value : goal.decreases-bound_value
decreases-bound_value l = bound_size (bound_tree l.bound.now) + 1

abbrev pub decreases-of_function : goal.decreases-of_function
decreases-of_function l = sizes (trees_of l.es.now) + 2

abbrev pub decreases-of_method : goal.decreases-of_method
decreases-of_method l = size (tree_of l.a.now) + sizes (trees_of l.es.now) + 2

abbrev pub invariant-values-loop-e : goal.invariant-values-loop-e
invariant-values-loop-e l = record {
  quiet : quiets (is_free l.scope) (trees_of (drop l.e-index l.es)) ≡ true;
  less : sizes (trees_of (drop l.e-index l.es)) ≤ sizes (trees_of l.es);
  steps : l.heap.steps ≤ l.fn.heap.steps;
  rest : (env : Env) (call : Call) (line : ℕ) (running : List (List ℕ × List ℕ)) (targets : List Target) → then_runs (values env call (trees_of (drop l.e-index l.es)) (here_of l.scope.at.now line running) (world_in (store_of l.heap) l.scope targets)) (λ xs. pure (l.all.items ++ xs)) ≡ values env call (trees_of l.es) (here_of l.scope.at.now line running) (world_in (store_of l.fn.heap) l.scope targets);
}
