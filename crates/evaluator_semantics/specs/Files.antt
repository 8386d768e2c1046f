-- What the evaluation of a file ends with (Starlark's specification, "Load statements", "Function definitions", "Module
-- execution" and "Freezing a value").
use Rattle.std.specs.Prelude.{ℕ, List, [], ◌∷◌, ◌++◌, Option, Some, None}
use Rattle.syntax_grammar.specs.declared.kind.FileKind.{FileKind}
use Rattle.syntax_grammar.specs.declared.kind.FileKind.TheVariants as k
use Rattle.syntax_tree.specs.Tree as t
use Rattle.syntax_tree.specs.Tree.{Ld, It, Tp, Fn, Pa, Bound}
use Rattle.values_semantics.specs.declared.val.Val.{Val}
use Rattle.values_semantics.specs.Heap.{walks, makes, function}
use Rattle.values_semantics.specs.Freezing.{Fz, freezes, freeze, freeze_members, thaw}
use Rattle.values_semantics.specs.declared.faults.TheConstants.{NOT_BOUND, NOT_EXPORTED}
use Rattle.evaluator_semantics.specs.Sorting.{in_order}
use Rattle.values_modules.specs.Values.{Target, Frozen, Defaults, Body, ModuleValue}
use Rattle.evaluator_semantics.specs.Modules.{export_of, all_bodies, each_once}
use Rattle.evaluator_semantics.specs.World.{World, Site, Here, at_line, Ends, ended, failed, waits, Runs, ◌>>=◌, pure, fault, or_fault, on_heap, tick}
use Rattle.evaluator_semantics.specs.Names.{top_names, load_names, names_once, new_block, bind, file_slot, names_at, change_names}
use Rattle.evaluator_semantics.specs.Environment.{Env, defs, defaults_of}
use Rattle.evaluator_semantics.specs.Expressions.{value}
use Rattle.evaluator_semantics.specs.Statements.{exec}
use Rattle.evaluator_semantics.specs.Calls.{call}

-- ---- loads

-- An exported name that begins with `_` or is absent is fault 18; then a global that is bound is 26.
abbrev pub load_items : Body → List It → Here → Runs (Unit {0})
load_items body [] here = pure tt
load_items body (i ∷ is) here =
    or_fault NOT_EXPORTED (export_of i.exported body) here >>= λ f.
    on_heap here (thaw f) >>= λ x.
    bind i.local x here >>= λ _.
    load_items body is here

-- a load statement is a step, and binds its items in order
abbrev pub loads : List Ld → List ModuleValue → Here → Runs (Unit {0})
loads [] ms here = pure tt
loads (l ∷ ls) [] here = fault NOT_EXPORTED (at_line l.line here)
loads (l ∷ ls) (m ∷ ms) here =
    tick (at_line l.line here) >>= λ _.
    load_items m.body l.items (at_line l.line here) >>= λ _.
    loads ls ms here

-- the names that loads bind, with the values of the modules
abbrev pub frozen_item : It → Option Fz → List Frozen → List Frozen
frozen_item i None rest = rest
frozen_item i (Some f) rest = record { name = i.local; value = f } ∷ rest

abbrev pub frozen_items : Body → List It → List Frozen
frozen_items body [] = []
frozen_items body (i ∷ is) = frozen_item i (export_of i.exported body) (frozen_items body is)

abbrev pub frozen_loads : List Ld → List ModuleValue → List Frozen
frozen_loads [] ms = []
frozen_loads (l ∷ ls) [] = []
frozen_loads (l ∷ ls) (m ∷ ms) = frozen_items m.body l.items ++ frozen_loads ls ms

-- ---- statements at file level

-- how many calls may be entered inside one another
abbrev pub open_calls : ℕ
open_calls = 64

-- the value of a default, before those of the defaults after it
abbrev pub default_value : Env → Bound → Here → Runs (List Val) → Runs (List Val)
default_value env t.no_bound here rest = rest
default_value env (t.bound e) here rest = value env (call env open_calls) e here >>= λ x. rest >>= λ xs. pure (x ∷ xs)

-- the values of the defaults, in the order of the parameters
abbrev pub default_values : Env → List Pa → Here → Runs (List Val)
default_values env [] here = pure []
default_values env (p ∷ ps) here = default_value env p.default here (default_values env ps here)

-- the defaults of a function, kept for its calls
abbrev pub keep_defaults : List ℕ → List ℕ → List Val → Runs (Unit {0})
keep_defaults label name xs = λ w. ended tt (record w { files = change_names label (λ f. record f { defaults = (name, xs) ∷ f.defaults }) w.files })

-- Defaults are evaluated once, at the `def`.
abbrev pub define : Env → Fn → Here → Runs (Unit {0})
define env f here =
    tick here >>= λ _.
    default_values env f.params here >>= λ xs.
    on_heap here (makes (function env.label f.name)) >>= λ x.
    keep_defaults env.label f.name xs >>= λ _.
    bind f.name x here

-- a statement at file level, or a function
abbrev pub top : Env → Tp → Here → Runs (Unit {0})
top env (t.stmt s) here = exec env (call env open_calls) s here >>= λ _. pure tt
top env (t.def f) here = define env f (at_line f.line here)

abbrev pub tops : Env → List Tp → Here → Runs (Unit {0})
tops env [] here = pure tt
tops env (x ∷ xs) here = top env x here >>= λ _. tops env xs here

-- a first statement that is one string alone
abbrev pub leading : Option ℕ → Here → Runs (Unit {0})
leading None here = pure tt
leading (Some line) here = tick (at_line line here)

-- all statements of the file: the leading string, the loads, the others
abbrev pub statements : Env → Here → Runs (Unit {0})
statements env here =
    leading env.file.leading here >>= λ _.
    loads env.file.loads env.loads here >>= λ _.
    tops env env.file.tops here

-- ---- freezing, at the end of a .bzl file, with the steps that are left

-- the values of globals; each walk begins outside of all containers
abbrev pub frozen_names : List (List ℕ) → Here → Runs (List Frozen)
frozen_names [] here = pure []
frozen_names (x ∷ xs) here =
    (λ w. or_fault NOT_BOUND (file_slot x (names_at here.label w.files)) here w) >>= λ bound.
    or_fault NOT_BOUND bound here >>= λ y.
    on_heap here (freezes y) >>= λ f.
    frozen_names xs here >>= λ fs.
    pure (record { name = x; value = f } ∷ fs)

abbrev pub frozen_defaults : List Fn → Here → Runs (List Defaults)
frozen_defaults [] here = pure []
frozen_defaults (f ∷ fs) here =
    (λ w. on_heap here (walks λ heap. freeze_members (freeze 64 heap) (defaults_of here.label f.name w)) w) >>= λ xs.
    frozen_defaults fs here >>= λ rest.
    pure (record { name = f.name; values = xs } ∷ rest)

-- The module's own globals in the order in which they were bound, followed by the defaults of each `def` in the file's
-- order. A fault has line 0.
abbrev pub frozen_module : Env → Here → Runs ModuleValue
frozen_module env here =
    frozen_names (names_once [] (top_names env.file.tops)) here >>= λ own.
    frozen_defaults (defs env.file.tops) here >>= λ defaults.
    pure (record {
      body = record { label = env.label; path = env.path; own = own; loaded = frozen_loads env.file.loads env.loads; functions = defs env.file.tops; defaults = defaults };
      reached = each_once [] (all_bodies env.loads);
    })

-- ---- the outcome

pub data Outcome : Type 0 where
  a_module : ModuleValue → Outcome
  -- the targets in byte order of their names
  a_package : List Target → Outcome
  -- the patterns of a call of `glob` that have no answer yet
  a_need : List (List ℕ) → Outcome
  a_fault : (code : ℕ) → Site → Outcome

-- the number of steps that an evaluation of a file has
abbrev pub all_steps : ℕ
all_steps = 1000000

-- no name is bound, and this many steps are left
abbrev pub start : ℕ → Env → World
start steps env = record {
  store = record { heap = []; iterated = []; steps = steps };
  blocks = [];
  files = record { label = env.label; block = new_block (load_names env.file.loads ++ top_names env.file.tops); defaults = [] } ∷ [];
  targets = [];
}

-- where the statements of the file are; each has its own line
abbrev pub file_level : Env → Here
file_level env = record { label = env.label; kind = env.kind; site = record { path = env.path; line = 0 }; running = [] }

-- the targets that were made
abbrev pub the_package : Runs Outcome
the_package w = ended (a_package (in_order (λ x. x.name) w.targets)) w

-- the globals of a BUILD file are not frozen
abbrev pub leaves : FileKind → Env → Here → Runs Outcome
leaves k.Build env here = the_package
leaves k.Bzl env here = frozen_module env here >>= λ m. pure (a_module m)

-- the whole file
abbrev pub whole_file : Env → Runs Outcome
whole_file env = statements env (file_level env) >>= λ _. leaves env.kind env (file_level env)

-- a fault ends the evaluation, and so does a call of `glob` without an answer
abbrev pub outcome_of : Ends Outcome → Outcome
outcome_of (ended o w) = o
outcome_of (failed code site) = a_fault code site
outcome_of (waits patterns) = a_need patterns

-- The outcome of a file, which its tree, its kind, label, path and package, its loads and the answered globs determine.
unfoldable pub evaluate : Env → Outcome
evaluate env = outcome_of (whole_file env (start all_steps env))
