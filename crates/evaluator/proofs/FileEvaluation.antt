-- The evaluation of a file, where a machine stands in it.
use Rattle.std.proofs.Common.{◌≡◌, ◌++◌, ℕ, List, [], Result, Ok, Err, refl, ap, sym, subst, ◌∙◌}
use Rattle.base_types.specs.declared.memory.Memory as t
use Rattle.std.specs.Arc.{arc_value}
use Rattle.std.specs.declared.alloc.Global.{Global}
use Rattle.std.specs.declared.sync.Arc.{Arc}
use Rattle.syntax_tree.specs.declared.def.File.{File}
use Rattle.syntax_tree.specs.Statements.{file_of}
use Rattle.syntax_tree.specs.Tree.{Fi, Tp}
use Rattle.values_modules.specs.Values.{ModuleValue}
use Rattle.evaluator_state.specs.declared.state.Position.{Position}
use Rattle.evaluator_semantics.specs.World.{World, Here, Ends, ended, failed, waits, Runs, then_runs, pure}
use Rattle.evaluator_semantics.specs.Environment.{Env, Answers}
use Rattle.evaluator_semantics.specs.Laws.{KnowsMore, with_answers}
use Rattle.evaluator_semantics.specs.Files as l
use Rattle.evaluator_semantics.specs.Files.{a_fault, all_steps, start, open_calls, file_level, leading, loads, tops, leaves, outcome_of, evaluate}
use Rattle.evaluator_semantics.specs.Statements as s
use Rattle.evaluator_semantics.proofs.MoreAnswers.{answer_stays}
use Rattle.evaluator_state.specs.View.{world_of, here_of}
use Rattle.evaluator_frames.specs.declared.frame.Frame.{Frame}
use Rattle.evaluator_frames.specs.declared.frame.Control.{Control}
use Rattle.evaluator_frames.specs.declared.frame.Control.TheVariants as controls
use Rattle.evaluator_frames.specs.Frames.{Sig, an_exit, machine_does, stack_does, tops_do}
use Rattle.evaluator_frames.proofs.Bind.{then_assoc, stack_empty}
use Rattle.evaluator.specs.declared.machine.Environment.{Environment}
use Rattle.evaluator.specs.declared.machine.Machine.{Machine}
use Rattle.evaluator.specs.declared.machine.Stop.{Stop}
use Rattle.evaluator.specs.declared.machine.Stop.TheVariants as stops
use Rattle.evaluator.specs.declared.outcome.Outcome.{Outcome}
use Rattle.evaluator.specs.declared.outcome.Outcome.TheVariants as answers
use Rattle.evaluator.specs.Machines.{env_of, here_in, means, site_at}
use Rattle.evaluator.specs.Files.{opens, Opened, left_behind, Stands}
use Rattle.evaluator.specs.Outcomes.{Evaluates, Shows}
use Rattle.evaluator.proofs.Levels.{tops_same}
use Rattle.evaluator.proofs.Ending.{level_of}

-- the file's outcome, by what stands before its statements
pub opened_outcome : (env : Env) (o : Ends (Unit {0})) → opens env.file env.loads (file_level env) (start all_steps env) ≡ o → evaluate env ≡ outcome_of (then_runs (then_runs o (λ _. tops env env.file.tops (file_level env))) (λ _. leaves env.kind env (file_level env)))
unfolding evaluate
opened_outcome env o e =
    let here = file_level env in
    let w = start all_steps env in
    let rest = λ (_ : Unit {0}). tops env env.file.tops here in
    let last = λ (_ : Unit {0}). leaves env.kind env here in
    ap (λ p. outcome_of (then_runs p last)) (sym (then_assoc (leading env.file.leading here w) (λ _. loads env.file.loads env.loads here) rest))
    ∙ ap (λ p. outcome_of (then_runs (then_runs p rest) last)) e

-- behind the exit of the statements
exit_behind : (m : Ends s.Exit) (k : Runs l.Outcome) → then_runs m (λ _. k) ≡ then_runs (then_runs (then_runs m (λ exit. pure (an_exit exit))) pure) (λ _. k)
exit_behind (ended exit u) k = refl
exit_behind (failed c site) k = refl
exit_behind (waits ps) k = refl

-- the statements of a file, as a machine without frames has them
level_means : (env : Env) (file : Arc File Global) (frames : List Frame) (w : World) → frames ≡ [] → (file_of (arc_value file)).tops ≡ env.file.tops → then_runs (tops env env.file.tops (file_level env) w) (λ _. leaves env.kind env (file_level env)) ≡ left_behind env (machine_does env open_calls (file_level env) (controls.Tops file 0) frames w)
level_means env file frames w none same =
    let here = file_level env in
    let k = leaves env.kind env here in
    let exits = λ (xs : List Tp). then_runs (tops_do env open_calls here xs w) (λ exit. pure (an_exit exit)) in
    tops_same env env.file.tops w k
    ∙ exit_behind (tops_do env open_calls here env.file.tops w) k
    ∙ ap (λ (xs : List Tp). then_runs (then_runs (exits xs) pure) (λ _. k)) (sym same)
    ∙ ap (λ (j : Sig → Runs Sig). then_runs (then_runs (exits (file_of (arc_value file)).tops) j) (λ _. k)) (sym (stack_empty env open_calls here))
    ∙ ap (λ (fs : List Frame). then_runs (then_runs (exits (file_of (arc_value file)).tops) (stack_does env open_calls here fs)) (λ _. k)) (sym none)

-- a machine that is to begin the statements of a file
pub stands_first : (e : Environment) (m : Machine) (file : Arc File Global) → arc_value file ≡ arc_value e.file → m.left ≡ open_calls → m.frames.items ≡ [] → here_in m ≡ file_level (env_of e) → opens (env_of e).file (env_of e).loads (file_level (env_of e)) (start all_steps (env_of e)) ≡ ended tt (world_of m.state) → Stands e m (controls.Tops file 0)
stands_first e m file is left none here opened = λ more knows.
    let env = with_answers more (env_of e) in
    let w = world_of m.state in
    opened_outcome env (ended tt w) opened
    ∙ ap outcome_of (level_means env file m.frames.items w none (ap (λ (f : File). (file_of f).tops) is))
    ∙ ap (λ (n : ℕ). outcome_of (left_behind env (machine_does env n (file_level env) (controls.Tops file 0) m.frames.items w))) (sym left)
    ∙ ap (λ (h : Here). outcome_of (left_behind env (machine_does env m.left h (controls.Tops file 0) m.frames.items w))) (sym here)

-- what stands before the statements of a file, under other names of what it is about
pub opens_same : (e : Environment) (file : Fi) (modules : List ModuleValue) (at : Position) (w : World) (r : Result (Unit {0}) Stop) (u : World)
    → file ≡ (env_of e).file → modules ≡ (env_of e).loads → at ≡ level_of (env_of e) → w ≡ start all_steps (env_of e)
    → Opened (opens file modules (here_of at at.line []) w) r u → Opened (opens (env_of e).file (env_of e).loads (file_level (env_of e)) (start all_steps (env_of e))) r u
opens_same e file modules at w r u a b c d h =
    let same : opens file modules (here_of at at.line []) w ≡ opens (env_of e).file (env_of e).loads (file_level (env_of e)) (start all_steps (env_of e)) = λ i. opens (a i) (b i) (here_of (c i) (c i).line []) (d i) in
    subst (λ (o : Ends (Unit {0})). Opened o r u) same h

-- what a part that stops shows of a file
abbrev pub EndsFaulty : Env → Stop → Type 0
EndsFaulty env (stops.Fault code path line) = evaluate env ≡ a_fault code (site_at path line)
EndsFaulty env (stops.Memory _) = Unit {0}

pub stop_evaluates : (env : Env) (stop : Stop) (result : Result Outcome t.Memory) → EndsFaulty env stop → Shows stop result → Evaluates env result
stop_evaluates env (stops.Fault code path line) (Ok (answers.Fault fault)) e h = e ∙ ap (λ d. a_fault d (site_at path line)) (sym h.0) ∙ ap (λ q. a_fault fault.code (site_at q line)) (sym h.1) ∙ ap (λ j. a_fault fault.code (site_at fault.path j)) (sym h.2)
stop_evaluates env (stops.Fault code path line) (Ok (answers.Module m)) e h = absurd h
stop_evaluates env (stops.Fault code path line) (Ok (answers.Package ts)) e h = absurd h
stop_evaluates env (stops.Fault code path line) (Ok (answers.Need ps s)) e h = absurd h
stop_evaluates env (stops.Fault code path line) (Err m) e h = absurd h
stop_evaluates env (stops.Memory _) (Ok r) e h = absurd h
stop_evaluates env (stops.Memory _) (Err m) e h = tt

-- a file that stops before its statements
pub opens_faulty : (env : Env) (stop : Stop) (u : World) → Opened (opens env.file env.loads (file_level env) (start all_steps env)) (Err stop) u → EndsFaulty env stop
opens_faulty env (stops.Fault code path line) u e = opened_outcome env (failed code (site_at path line)) e
opens_faulty env (stops.Memory _) u e = tt

-- what stands under some answers stands with more behind them
pub stands_on : (e : Environment) (m : Machine) (control : Control) (again : Environment) (extra : Answers) → env_of again ≡ with_answers ((env_of e).globs ++ extra) (env_of e) → Stands e m control → Stands again m control
stands_on e m control again extra is stands = λ more knows.
    let known : KnowsMore ((env_of e).globs ++ extra) more = subst (λ (env : Env). KnowsMore env.globs more) is knows in
    subst (λ (env : Env). evaluate (with_answers more env) ≡ outcome_of (left_behind (with_answers more env) (means (with_answers more env) m control))) (sym is)
    (stands more (λ p paths found. known p paths (answer_stays (env_of e).globs extra p paths found)))
