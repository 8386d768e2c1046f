use Rattle.std.proofs.Common.{◌≡◌, ◌+◌, ℕ, List}
use Rattle.evaluator_semantics.specs.Environment.{Env}
use Rattle.evaluator_state.specs.View.{world_of, here_of}
use Rattle.evaluator_frames.specs.Frames.{machine_does}
use Rattle.evaluator_frames.specs.Weight.{frames_weight, control_weight}
use Rattle.evaluator_frames.specs.Ahead.{AsLight}
use Rattle.evaluator_frames.proofs.moves.onward.Given as goal

abbrev pub invariant-loop-move : goal.invariant-loop-move
invariant-loop-move l = record {
  goes : (env : Env) (n : ℕ) (running : List (List ℕ × List ℕ)) → let here = here_of l.at l.at.line running in machine_does env n here l.fn.control l.fn.frames.items (world_of l.fn.state) ≡ machine_does env n here l.control l.frames.items (world_of l.state);
  light : AsLight l.fn.state.heap.steps (frames_weight l.fn.frames.items + control_weight l.fn.control) l.state.heap.steps (frames_weight l.frames.items + control_weight l.control);
}
