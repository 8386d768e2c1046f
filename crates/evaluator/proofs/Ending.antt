-- Files that end.
use Rattle.std.proofs.Common.{◌≡◌, ℕ, List, [], Result, Ok, Err, ap, sym, subst, ◌∙◌}
use Rattle.base_types.specs.declared.memory.Memory as t
use Rattle.values_objects.specs.declared.halt.Halt.{Halt}
use Rattle.values_objects.specs.declared.halt.Halt.TheVariants.{Code, Memory}
use Rattle.values_modules.specs.Values.{ModuleValue}
use Rattle.evaluator_state.specs.declared.state.Position.{Position}
use Rattle.evaluator_state.specs.View.{here_of, Ran}
use Rattle.evaluator_semantics.specs.World.{World, Ends, ended, failed, then_runs, pure}
use Rattle.evaluator_semantics.specs.Environment.{Env}
use Rattle.evaluator_semantics.specs.Files as l
use Rattle.evaluator_semantics.specs.Files.{a_module, a_fault, file_level, frozen_module, leaves, outcome_of}
use Rattle.evaluator.specs.declared.machine.Stop.{Stop}
use Rattle.evaluator.specs.declared.machine.Stop.TheVariants as stops
use Rattle.evaluator.specs.declared.outcome.Outcome.{Outcome}
use Rattle.evaluator.specs.declared.outcome.Outcome.TheVariants as answers
use Rattle.evaluator.specs.Machines.{Stops, site_at}
use Rattle.evaluator.specs.Outcomes.{IsLeft, Shows}

-- where the statements of a file stand, in memory
abbrev pub level_of : Env → Position
level_of env = record { label = env.label; path = env.path; kind = env.kind; line = 0 }

-- what a part ends with that stops
abbrev pub Stopped : {A : Type 0} → Ends A → Stop → Type 0
Stopped out (stops.Fault code path line) = out ≡ failed code (site_at path line)
Stopped out (stops.Memory _) = Unit {0}

pub stopped_by : {A : Type 0} (out : Ends A) (path : List ℕ) (line : ℕ) (halt : Halt) (stop : Stop) (u : World) → Ran (site_at path line) out (Err halt) u → Stops path line halt stop → Stopped out stop
stopped_by out path line (Code code) (stops.Fault c p i) u e h = e ∙ ap (λ d. failed d (site_at path line)) (sym h.0) ∙ ap (λ q. failed c (site_at q line)) (sym h.1) ∙ ap (λ j. failed c (site_at p j)) (sym h.2)
stopped_by out path line (Memory _) (stops.Fault c p i) u e h = absurd h
stopped_by out path line (Code code) (stops.Memory _) u e h = tt
stopped_by out path line (Memory _) (stops.Memory _) u e h = tt

pub stop_left : (out : Ends l.Outcome) (stop : Stop) (result : Result Outcome t.Memory) → Stopped out stop → Shows stop result → IsLeft out result
stop_left out (stops.Fault code path line) (Ok (answers.Fault fault)) e h = ap outcome_of e ∙ ap (λ d. a_fault d (site_at path line)) (sym h.0) ∙ ap (λ q. a_fault fault.code (site_at q line)) (sym h.1) ∙ ap (λ j. a_fault fault.code (site_at fault.path j)) (sym h.2)
stop_left out (stops.Fault code path line) (Ok (answers.Module m)) e h = absurd h
stop_left out (stops.Fault code path line) (Ok (answers.Package ts)) e h = absurd h
stop_left out (stops.Fault code path line) (Ok (answers.Need ps s)) e h = absurd h
stop_left out (stops.Fault code path line) (Err m) e h = absurd h
stop_left out (stops.Memory _) (Ok r) e h = absurd h
stop_left out (stops.Memory _) (Err m) e h = tt

-- the module of a file, and a fault where it is frozen
pub module_left : (env : Env) (at : Position) (w u : World) (loaded : ModuleValue) → at ≡ level_of env → frozen_module env (here_of at 0 []) w ≡ ended loaded u → outcome_of (then_runs (frozen_module env (file_level env) w) (λ m. pure (a_module m))) ≡ a_module loaded
module_left env at w u loaded is e =
    ap (λ (s : Position). outcome_of (then_runs (frozen_module env (here_of s 0 []) w) (λ m. pure (a_module m)))) (sym is)
    ∙ ap (λ o. outcome_of (then_runs o (λ m. pure (a_module m)))) e

pub module_fails : (env : Env) (at : Position) (w u : World) (halt : Halt) (stop : Stop) → at ≡ level_of env → Ran {A = ModuleValue} (site_at at.path 0) (frozen_module env (here_of at 0 []) w) (Err halt) u → Stops at.path 0 halt stop → Stopped (then_runs (frozen_module env (file_level env) w) (λ m. pure (a_module m))) stop
module_fails env at w u halt stop is e h =
    let out = λ (s : Position). then_runs (frozen_module env (here_of s 0 []) w) (λ m. pure (a_module m)) in
    subst (λ (s : Position). Stopped (out s) stop) is (stopped_by (out at) at.path 0 halt stop u (behind halt e) h)
  where
    behind : (halt : Halt) → Ran {A = ModuleValue} (site_at at.path 0) (frozen_module env (here_of at 0 []) w) (Err halt) u → Ran {A = l.Outcome} (site_at at.path 0) (then_runs (frozen_module env (here_of at 0 []) w) (λ m. pure (a_module m))) (Err halt) u
    behind (Code c) e = ap (λ o. then_runs o (λ m. pure (a_module m))) e
    behind (Memory _) e = tt
