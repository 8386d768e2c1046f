use Rattle.std.proofs.Common.{◌≡◌, ℕ, List, drop, map}
use Rattle.evaluator_semantics.specs.Files.{loads}
use Rattle.syntax_tree.specs.Statements.{load_of}
use Rattle.evaluator_state.specs.View.{here_of, world_of}
use Rattle.evaluator.proofs.running.bind_loads.Given as goal

abbrev pub invariant-loop-i : goal.invariant-loop-i
invariant-loop-i l = (running : List (List ℕ × List ℕ)) → loads (map load_of (drop l.i l.statements)) (drop l.i l.modules) (here_of l.at l.at.line running) (world_of l.state) ≡ loads (map load_of l.statements) l.modules (here_of l.at l.at.line running) (world_of l.fn.state)
