-- What the beginning of a function's body is.
use Rattle.std.specs.Prelude.{◌≡◌, ℕ, ◌+◌, List}
use Rattle.syntax_tree.specs.Tree.{Fn}
use Rattle.evaluator_semantics.specs.World.{Block}
use Rattle.evaluator_semantics.specs.Calls.{inside, function_block, body_does}
use Rattle.evaluator_semantics.specs.Environment.{Env, path_of}
use Rattle.evaluator_state.specs.View.{block_view, world_of}
use Rattle.evaluator_state.specs.declared.state.Block as state
use Rattle.evaluator_frames.specs.Frames.{on, valued, above}
use Rattle.evaluator_frames.specs.Weight.{frames_weight, control_weight}
use Rattle.evaluator_frames.specs.declared.frame.Control.{Control}
use Rattle.evaluator.specs.Finding.{body_runs}
use Rattle.evaluator.specs.Machines.{here_in, means}
use Rattle.evaluator.specs.declared.machine.Machine.{Machine}

-- the machine goes on with the function's body, in a block of its parameters' values, and hands the body's value back
abbrev pub BeginsBody : Machine → Machine → List ℕ → List ℕ → Fn → state.Block → Control → Type 0
BeginsBody old new label path f block control = (env : Env) (line : ℕ) (parameters : Block) → block_view block ≡ function_block f parameters → path ≡ path_of env label
    → let here = on env old.left (here_in old) line in
    above env old.left (here_in old) (valued (body_does (body_runs env old.left) f parameters (inside env label f here) here)) old.frames.items (world_of old.state) ≡ means env new control

-- the heap is as it was, and the caller's frame is left to be ended
abbrev pub AddsCaller : Machine → Machine → Control → Type 0
AddsCaller old new control = (new.state.heap ≡ old.state.heap) × (frames_weight new.frames.items + control_weight control ≡ frames_weight old.frames.items + 3)
