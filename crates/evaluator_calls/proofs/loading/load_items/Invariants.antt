use Rattle.std.proofs.Common.{◌≡◌, ℕ, List, drop, map}
use Rattle.evaluator_semantics.specs.Files.{load_items}
use Rattle.syntax_tree.specs.Statements.{item_of}
use Rattle.evaluator_state.specs.View.{here_of, world_of}
use Rattle.evaluator_calls.proofs.loading.load_items.Given as goal

abbrev pub invariant-loop-item : goal.invariant-loop-item
invariant-loop-item l = record {
  rest : (line : ℕ) (running : List (List ℕ × List ℕ)) → load_items l.body (map item_of (drop l.item-index l.items)) (here_of l.at line running) (world_of l.state) ≡ load_items l.body (map item_of l.items) (here_of l.at line running) (world_of l.fn.state);
  steps : l.state.heap.steps ≡ l.fn.state.heap.steps;
}
