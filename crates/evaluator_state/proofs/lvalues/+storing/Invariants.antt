use Rattle.std.proofs.Common.{◌≡◌, ◌≤◌, ℕ, List, length, map, drop}
use Rattle.evaluator_semantics.specs.Targets.{store_each}
use Rattle.evaluator_state.specs.View.{world_of, here_of}
use Rattle.evaluator_state.specs.AimView.{aim_of, aims_of}
use Rattle.evaluator_state.proofs.lvalues.+storing.Given as goal

abbrev pub invariant-store_each-loop-i : goal.invariant-store_each-loop-i
invariant-store_each-loop-i l = record {
  rest : (line : ℕ) (running : List (List ℕ × List ℕ)) → store_each (aims_of (map aim_of (drop l.i l.aims))) (drop l.i l.xs) (here_of l.at line running) (world_of l.state) ≡ store_each (aims_of (map aim_of l.aims)) l.xs (here_of l.at line running) (world_of l.fn.state);
  steps : l.state.heap.steps ≤ l.fn.state.heap.steps;
  long : length l.aims ≡ length l.xs;
}
