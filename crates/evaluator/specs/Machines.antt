-- What a machine in the middle of a file means, and how far a turn of it leads.
use Rattle.std.specs.Prelude.{◌≡◌, ◌<◌, ℕ, ◌+◌, List, Result, Ok, Err}
use Rattle.std.specs.Arc.{arc_value}
use Rattle.values_objects.specs.declared.halt.Halt.{Halt}
use Rattle.values_objects.specs.declared.halt.Halt.TheVariants.{Code, Memory}
use Rattle.syntax_tree.specs.Statements.{file_of}
use Rattle.evaluator_semantics.specs.World.{Here, Site, Ends, ended, failed, waits}
use Rattle.evaluator_semantics.specs.Environment.{Env, Answers}
use Rattle.evaluator_semantics.specs.Laws.{KnowsMore, with_answers}
use Rattle.evaluator_state.specs.View.{world_of, here_of}
use Rattle.evaluator_calls.specs.View.{running_of}
use Rattle.evaluator_frames.specs.declared.frame.Control.{Control}
use Rattle.evaluator_frames.specs.declared.frame.Control.TheVariants as c
use Rattle.evaluator_frames.specs.Frames.{Sig, sig_of, machine_does}
use Rattle.evaluator_frames.specs.Weight.{Lighter, frames_weight, control_weight}
use Rattle.evaluator_frames.specs.Ahead.{AsLight}
use Rattle.evaluator.specs.declared.machine.Environment.{Environment}
use Rattle.evaluator.specs.declared.machine.Machine.{Machine}
use Rattle.evaluator.specs.declared.machine.Stop.{Stop}
use Rattle.evaluator.specs.declared.machine.Stop.TheVariants as s
use Rattle.evaluator.specs.declared.machine.Progress.{Progress}
use Rattle.evaluator.specs.declared.machine.Progress.TheVariants as t

-- what the evaluation of a file is given
abbrev pub env_of : Environment → Env
env_of e = record {
  kind = e.package.kind;
  label = e.label;
  path = e.path;
  package_name = e.package.name;
  file = file_of (arc_value e.file);
  loads = e.loads.items;
  globs = e.package.answers;
}

-- where the function that runs stands
abbrev pub here_in : Machine → Here
here_in m = here_of m.at m.at.line (running_of m.running.items)

-- what a machine ends with that has a control next
abbrev pub means : Env → Machine → Control → Ends Sig
means env m control = machine_does env m.left (here_in m) control m.frames.items (world_of m.state)

-- with the globs that are answered, and with more
abbrev pub Under : Environment → (Env → Type 0) → Type 0
Under e P = (more : Answers) → KnowsMore (env_of e).globs more → P (with_answers more (env_of e))

abbrev pub site_at : List ℕ → ℕ → Site
site_at path line = record { path = path; line = line }

-- how far a turn leads: to a control that means the same; to the end; to a call of `glob` that waits, and that means the
-- same once it is answered; or to a fault. Where memory was refused nothing is said.
abbrev pub Leads : Environment → (Env → Ends Sig) → Result Progress Stop → Machine → Type 0
Leads e before (Ok (t.Goes control)) m = Under e (λ env. before env ≡ means env m control)
Leads e before (Ok (t.Ended sig)) m = Under e (λ env. before env ≡ ended (sig_of sig) (world_of m.state))
Leads e before (Ok (t.Waits control patterns)) m = (before (env_of e) ≡ waits patterns.items) × Under e (λ env. before env ≡ means env m control)
Leads e before (Err (s.Fault code path line)) m = Under e (λ env. before env ≡ failed code (site_at path line))
Leads e before (Err (s.Memory _)) m = Unit {0}

-- fewer steps are left, or less is to be done before the next
abbrev pub Falls : Machine → Control → Machine → Control → Type 0
Falls m control after next = Lighter m.state.heap.steps (frames_weight m.frames.items + control_weight control) after.state.heap.steps (frames_weight after.frames.items + control_weight next)

-- a part of a turn leaves less to be done than there was of this weight
abbrev pub Lightens : Machine → ℕ → Machine → Progress → Type 0
Lightens m weight after (t.Goes next) = Lighter m.state.heap.steps weight after.state.heap.steps (frames_weight after.frames.items + control_weight next)
Lightens m weight after turned = Unit {0}

-- and less than there was of a control and the frames below it
abbrev pub TurnFalls : Machine → Control → Machine → Progress → Type 0
TurnFalls m control after turned = Lightens m (frames_weight m.frames.items + control_weight control) after turned

-- and no more
abbrev pub StaysLight : Machine → Control → Machine → Progress → Type 0
StaysLight m control after (t.Goes next) = AsLight m.state.heap.steps (frames_weight m.frames.items + control_weight control) after.state.heap.steps (frames_weight after.frames.items + control_weight next)
StaysLight m control after turned = Unit {0}

-- why a part stops that stands in a line of a file
abbrev pub Stops : List ℕ → ℕ → Halt → Stop → Type 0
Stops path line (Code code) (s.Fault c p l) = (c ≡ code) × (p ≡ path) × (l ≡ line)
Stops path line (Memory _) (s.Fault c p l) = ⊥
Stops path line halt (s.Memory _) = Unit {0}

-- a turn that leads on has paid for a step
abbrev pub StepsFall : Machine → Machine → Progress → Type 0
StepsFall before after (t.Goes next) = after.state.heap.steps < before.state.heap.steps
StepsFall before after turned = Unit {0}

-- what has ended or waits
abbrev pub IsOver : Progress → Type 0
IsOver (t.Goes next) = ⊥
IsOver turned = Unit {0}

-- what is neither a signal, nor a call of a function of a file, nor a package call
abbrev pub IsActing : Control → Type 0
IsActing (c.Signal sig) = ⊥
IsActing (c.Enter line place xs names) = ⊥
IsActing (c.Package line g xs names) = ⊥
IsActing control = Unit {0}
