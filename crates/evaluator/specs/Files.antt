-- How the evaluation of a file begins, and what is left of it where a machine stands in it.
use Rattle.std.specs.Prelude.{◌≡◌, ◌++◌, ℕ, List, map, zip, Result, Ok, Err}
use Rattle.std.specs.Arc.{arc_value}
use Rattle.std.specs.declared.alloc.Global.{Global}
use Rattle.std.specs.declared.sync.Arc.{Arc}
use Rattle.std.specs.declared.vec.Vec.{Vec}
use Rattle.base_types.specs.declared.text.Text.{Text}
use Rattle.syntax_tree.specs.Tree.{Fi, Fn, Ld}
use Rattle.syntax_tree.specs.Statements.{top_of}
use Rattle.values_modules.specs.Values.{Body, ModuleValue}
use Rattle.evaluator_semantics.specs.World.{World, Here, at_line, Ends, ended, failed, Runs, then_runs, ◌>>=◌, tick}
use Rattle.evaluator_semantics.specs.Environment.{Env, defs}
use Rattle.evaluator_semantics.specs.Laws.{with_answers}
use Rattle.evaluator_semantics.specs.Files.{Outcome, a_need, leading, load_items, loads, file_level, leaves, outcome_of, evaluate}
use Rattle.evaluator_frames.specs.declared.frame.Control.{Control}
use Rattle.evaluator_frames.specs.Frames.{Sig}
use Rattle.evaluator_calls.specs.Once.{AreReached}
use Rattle.evaluator.specs.declared.machine.Environment.{Environment}
use Rattle.evaluator.specs.declared.setting.Tables.{Tables}
use Rattle.evaluator.specs.declared.machine.Machine.{Machine}
use Rattle.evaluator.specs.declared.machine.Stop.{Stop}
use Rattle.evaluator.specs.declared.machine.Stop.TheVariants as s
use Rattle.evaluator.specs.Machines.{env_of, means, Under, site_at}

-- a load statement: a step, and what it binds
abbrev pub load_does : Body → Ld → Here → Runs (Unit {0})
load_does body l here = tick (at_line l.line here) >>= λ _. load_items body l.items (at_line l.line here)

-- what stands before the other statements of a file
abbrev pub opens : Fi → List ModuleValue → Here → Runs (Unit {0})
opens file modules here = leading file.leading here >>= λ _. loads file.loads modules here

-- it is done, or it stops at its fault; where memory was refused nothing is said
abbrev pub Opened : Ends (Unit {0}) → Result (Unit {0}) Stop → World → Type 0
Opened out (Ok done) u = out ≡ ended tt u
Opened out (Err (s.Fault code path line)) u = out ≡ failed code (site_at path line)
Opened out (Err (s.Memory _)) u = Unit {0}

-- the outcome of a file, behind its statements
abbrev pub left_behind : Env → Ends Sig → Ends Outcome
left_behind env ends = then_runs ends (λ _. leaves env.kind env (file_level env))

-- a machine that stands in the evaluation of a file: what is left gives the file's outcome, under more answers too
abbrev pub Stands : Environment → Machine → Control → Type 0
Stands e m control = Under e (λ env. evaluate env ≡ outcome_of (left_behind env (means env m control)))

-- the functions of the file that is evaluated
abbrev pub HasFunctions : Environment → List Fn → Type 0
HasFunctions e functions = functions ≡ defs (map top_of (arc_value e.file).tops.items)

-- the tables of a file: its functions, and the modules that its loads reach, where they were put together
pub record HasTables (e : Environment) (tables : Tables) : Type 0 where
  pub functions : HasFunctions e tables.functions
  pub modules : AreReached tables.modules e.loads.items

-- an evaluation that waits: what its file is given, and the patterns that have no answer
pub record Waiting : Type 0 where
  pub environment : Environment
  pub patterns : List (List ℕ)

-- where the evaluation of a file waits for answers to patterns
pub record Waits (e : Environment) (m : Machine) (control : Control) (patterns : List (List ℕ)) : Type 0 where
  pub stands : Stands e m control
  pub asks : evaluate (env_of e) ≡ a_need patterns

abbrev pub shared_texts : Arc (Vec Text Global) Global → List (List ℕ)
shared_texts texts = (arc_value texts).items

-- what a file is given, with answers to patterns behind those that it had
abbrev pub answered : Env → List (List ℕ) → List (List (List ℕ)) → Env
answered env patterns results = with_answers (env.globs ++ zip patterns results) env
