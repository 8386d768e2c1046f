-- How a step leads on, and what it costs.
use Rattle.std.specs.Prelude.{◌≡◌, ◌+◌, ◌≤◌, ℕ, List, Result, IfOk}
use Rattle.values_objects.specs.declared.halt.Halt.{Halt}
use Rattle.evaluator_semantics.specs.World.{Here, Ends}
use Rattle.evaluator_semantics.specs.Environment.{Env}
use Rattle.evaluator_state.specs.View.{world_of, here_of}
use Rattle.evaluator_state.specs.declared.state.State.{State}
use Rattle.evaluator_state.specs.declared.state.Position.{Position}
use Rattle.evaluator_frames.specs.declared.frame.Control.{Control}
use Rattle.evaluator_frames.specs.declared.frame.Frame.{Frame}
use Rattle.evaluator_frames.specs.Frames.{Sig, Goes, on, machine_does}
use Rattle.evaluator_frames.specs.Weight.{Lighter, frames_weight, control_weight}

-- From what was left to do before, the machine goes on with what is next above these frames, and means the same; or it
-- stops at the fault of what was left, in this line.
abbrev pub LeadsOn : Position → ℕ → (Env → ℕ → Here → Ends Sig) → Result Control Halt → List Frame → State → Type 0
LeadsOn at line before result frames state =
    (env : Env) (n : ℕ) (running : List (List ℕ × List ℕ)) → let here = here_of at at.line running in
    Goes (on env n here line).site (before env n here) result (λ control. machine_does env n here control frames (world_of state))

-- the same wherever it stands, and above any frames
abbrev pub LeadsOnAnywhere : ℕ → (Env → ℕ → Here → List Frame → Ends Sig) → Result Control Halt → State → Type 0
LeadsOnAnywhere line before result state =
    (env : Env) (n : ℕ) (here : Here) (frames : List Frame) →
    Goes (on env n here line).site (before env n here frames) result (λ control. machine_does env n here control frames (world_of state))

-- Fewer steps of the language are left, or as many and less to do before the next one than this weight.
abbrev pub GetsLighter : State → ℕ → Result Control Halt → List Frame → State → Type 0
GetsLighter old weight result frames new = IfOk result (λ control. Lighter old.heap.steps weight new.heap.steps (frames_weight frames + control_weight control))

-- no step is given back, and what is next weighs so much
abbrev pub SpendsFor : ℕ → State → Result Control Halt → State → Type 0
SpendsFor weight old result new = IfOk result (λ control. (new.heap.steps ≤ old.heap.steps) × (control_weight control ≡ weight))
