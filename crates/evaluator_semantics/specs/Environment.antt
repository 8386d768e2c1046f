-- What the evaluation of a file gets, and the names of loaded modules on its heap.
use Rattle.std.specs.Prelude.{ℕ, List, [], ◌∷◌, ◌++◌, Option, Some, None, if◌then◌else◌, is_some}
use Rattle.syntax_grammar.specs.declared.kind.FileKind.{FileKind}
use Rattle.values_semantics.specs.declared.val.Val.{Val}
use Rattle.values_semantics.specs.Comparing.{same_text}
use Rattle.values_semantics.specs.Freezing.{thaw, thaw_members}
use Rattle.syntax_tree.specs.Tree as t
use Rattle.syntax_tree.specs.Tree.{Fi, Fn, Tp}
use Rattle.values_modules.specs.Values.{Frozen, Defaults, Body, ModuleValue}
use Rattle.evaluator_semantics.specs.Modules.{body_at, all_bodies}
use Rattle.evaluator_semantics.specs.World.{World, Block, Names, Here, Runs, ◌>>=◌, pure, on_heap, ended}
use Rattle.evaluator_semantics.specs.Names.{names_at}

-- the paths in the package that each question of a glob finds, for those that have an answer
abbrev pub Answers : Type 0
Answers = List (List ℕ × List (List ℕ))

-- The label of a BUILD file is the empty text, which no module has. `loads` has a module for each load statement of the
-- file, in order.
pub record Env : Type 0 where
  pub kind : FileKind
  pub label : List ℕ
  pub path : List ℕ
  pub package_name : List ℕ
  pub file : Fi
  pub loads : List ModuleValue
  pub globs : Answers

-- the functions of a file, in its order
abbrev pub defs : List Tp → List Fn
defs [] = []
defs (t.stmt s ∷ tops) = defs tops
defs (t.def d ∷ tops) = d ∷ defs tops

-- a module that the loads reach
abbrev pub reached_module : Env → List ℕ → Option Body
reached_module env label = body_at label (all_bodies env.loads)

abbrev pub path_in : Option Body → List ℕ
path_in None = []
path_in (Some body) = body.path

abbrev pub functions_in : Option Body → List Fn
functions_in None = []
functions_in (Some body) = body.functions

abbrev pub path_of : Env → List ℕ → List ℕ
path_of env label = if same_text label env.label then env.path else path_in (reached_module env label)

abbrev pub functions_of : Env → List ℕ → List Fn
functions_of env label = if same_text label env.label then defs env.file.tops else functions_in (reached_module env label)

abbrev pub function_named : List ℕ → List Fn → Option Fn
function_named x [] = None
function_named x (f ∷ fs) = if same_text x f.name then Some f else function_named x fs

-- ---- a module's names on the heap, where its lists and dictionaries cannot be changed. This takes no steps.

abbrev pub thaw_block : List Frozen → Here → Runs Block
thaw_block [] here = pure []
thaw_block (f ∷ fs) here = on_heap here (thaw f.value) >>= λ x. thaw_block fs here >>= λ block. pure ((f.name, Some x) ∷ block)

abbrev pub thawed_defaults : List Defaults → Here → Runs (List (List ℕ × List Val))
thawed_defaults [] here = pure []
thawed_defaults (d ∷ ds) here = on_heap here (thaw_members d.values) >>= λ xs. thawed_defaults ds here >>= λ rest. pure ((d.name, xs) ∷ rest)

abbrev pub add_names : Names → Runs (Unit {0})
add_names names = λ w. ended tt (record w { files = w.files ++ names ∷ [] })

abbrev pub thaw_body : Option Body → Here → Runs (Unit {0})
thaw_body None here = pure tt
thaw_body (Some body) here =
    thaw_block body.own here >>= λ own.
    thaw_block body.loaded here >>= λ loaded.
    thawed_defaults body.defaults here >>= λ defaults.
    add_names (record { label = body.label; block = own ++ loaded; defaults = defaults })

-- the names of a module are put on the heap when one of them is first needed
unfoldable pub need_names : Env → List ℕ → Here → Runs (Unit {0})
need_names env label here = λ w. (if is_some (names_at label w.files) then pure tt else thaw_body (reached_module env label) here) w

-- the defaults of a function
abbrev pub values_named : List ℕ → List (List ℕ × List Val) → List Val
values_named x [] = []
values_named x (d ∷ ds) = if same_text x d.0 then d.1 else values_named x ds

abbrev pub defaults_among : List ℕ → Option Names → List Val
defaults_among x None = []
defaults_among x (Some names) = values_named x names.defaults

abbrev pub defaults_of : List ℕ → List ℕ → World → List Val
defaults_of label x w = defaults_among x (names_at label w.files)
