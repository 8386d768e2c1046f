-- The node of a .bzl file or a BUILD file, from its text on: what it loads, and what its evaluation leaves.
use Rattle.std.specs.Prelude.{ℕ, zero, suc, List, [], ◌∷◌, ◌++◌, drop, length, map, zip, nat_lt, if◌then◌else◌, Option, Some, None, Result, Ok, Err}
use Rattle.std.specs.BTreeMap.{BTreeMap}
use Rattle.values_semantics.specs.declared.faults.TheConstants.{BAD_LABEL, NO_MODULE}
use Rattle.engine_semantics.specs.Reply.{Reply, Ask, Done}
use Rattle.labels.specs.Labels.{Target, label_of, label_text, is_module}
use Rattle.syntax_tree.specs.Tree.{Fi, Ld}
use Rattle.syntax_tokens.specs.Reading as tokens
use Rattle.syntax_grammar.specs.Files.{parse_of}
use Rattle.values_modules.specs.Values.{ModuleValue}
use Rattle.evaluator_semantics.specs.Environment.{Env}
use Rattle.evaluator_semantics.specs.Laws.{with_answers}
use Rattle.evaluator_semantics.specs.Files.{Outcome, a_module, a_package, a_need, a_fault, evaluate}
use Rattle.functions_directories.specs.Globs.{glob_key, paths_of}
use Rattle.keys.specs.declared.key.Key.{Key}
use Rattle.keys.specs.declared.key.Key.TheVariants as key
use Rattle.keys.specs.declared.value.Fault.{Fault}
use Rattle.keys.specs.declared.value.Value.{Value}
use Rattle.keys.specs.declared.value.Value.TheVariants as value
use Rattle.functions.specs.declared.source.Source.{Source}
use Rattle.functions.specs.Once.{once, answer_at, answer_in}

-- ---- faults

abbrev pub fault_at : ℕ → List ℕ → ℕ → Fault
fault_at code path line = record { code = code; path = path; line = line }

abbrev pub faulty : ℕ → List ℕ → ℕ → Reply Key Value
faulty code path line = Done (value.Fault (fault_at code path line))

-- what each item of a list gives, or the first fault
abbrev pub before : {B : Type 0} → Result B Fault → Result (List B) Fault → Result (List B) Fault
before (Err f) rest = Err f
before (Ok y) (Err f) = Err f
before (Ok y) (Ok ys) = Ok (y ∷ ys)

abbrev pub each_or_fault : {A B : Type 0} → (A → Result B Fault) → List A → Result (List B) Fault
each_or_fault f [] = Ok []
each_or_fault f (x ∷ xs) = before (f x) (each_or_fault f xs)

-- ---- loads

-- the label of a module, or fault 15 in the line of the load
abbrev pub module_key : Option Target → List ℕ → ℕ → Result Key Fault
module_key None path line = Err (fault_at BAD_LABEL path line)
module_key (Some t) path line = if is_module t then Ok (key.Module (label_text t)) else Err (fault_at BAD_LABEL path line)

abbrev pub load_key : Source → Ld → Result Key Fault
load_key source l = module_key (label_of l.label source.package_name) source.path l.line

-- the module that a load gives, or its fault unchanged; a load has no other value
abbrev pub module_in : List ℕ → Option Value → Result ModuleValue Fault
module_in path None = Err (fault_at NO_MODULE path 0)
module_in path (Some (value.File text)) = Err (fault_at NO_MODULE path 0)
module_in path (Some (value.Listing names)) = Err (fault_at NO_MODULE path 0)
module_in path (Some (value.Lookup name)) = Err (fault_at NO_MODULE path 0)
module_in path (Some (value.Paths paths)) = Err (fault_at NO_MODULE path 0)
module_in path (Some (value.Module loaded)) = Ok loaded
module_in path (Some (value.Package targets)) = Err (fault_at NO_MODULE path 0)
module_in path (Some (value.Fault f)) = Err f
module_in path (Some (value.Cycle labels)) = Err (fault_at NO_MODULE path 0)

-- the modules of all loads, in their order, or the fault of the first faulty one
abbrev pub all_modules : List ℕ → List Key → List Key → List Value → Result (List ModuleValue) Fault
all_modules path group keys answers = each_or_fault (λ k. module_in path (answer_at k group answers)) keys

-- the same by the keys' places
abbrev pub modules_in : List ℕ → BTreeMap Key ℕ → List Key → List Value → Result (List ModuleValue) Fault
modules_in path places keys answers = each_or_fault (λ k. module_in path (answer_in places k answers)) keys

-- ---- the evaluation, which stops at each call of `glob` whose patterns have no answer

abbrev pub env_of : Source → Fi → List ModuleValue → Env
env_of source file loads = record {
  kind = source.kind;
  label = source.label;
  path = source.path;
  package_name = source.package_name;
  file = file;
  loads = loads;
  globs = [];
}

-- the globs of patterns
abbrev pub glob_keys : List ℕ → List (List ℕ) → List Key
glob_keys package_name patterns = map (λ p. glob_key package_name p) patterns

abbrev pub glob_group : List ℕ → List (List ℕ) → List Key
glob_group package_name patterns = once (glob_keys package_name patterns)

abbrev pub paths_or_none : Option Value → List (List ℕ)
paths_or_none None = []
paths_or_none (Some v) = paths_of v

-- the paths that each key finds by the answers of a group
abbrev pub paths_by : List Key → List Key → List Value → List (List (List ℕ))
paths_by group keys answers = map (λ k. paths_or_none (answer_at k group answers)) keys

-- the same by the keys' places
abbrev pub paths_in : BTreeMap Key ℕ → List Key → List Value → List (List (List ℕ))
paths_in places keys answers = map (λ k. paths_or_none (answer_in places k answers)) keys

abbrev pub with_paths : Env → List (List ℕ) → List Value → Env
with_paths env patterns answers = with_answers (env.globs ++ zip patterns (paths_by (glob_group env.package_name patterns) (glob_keys env.package_name patterns) answers)) env

abbrev pub value_or_group : Env → Outcome → Reply Key Value
value_or_group env (a_module loaded) = Done (value.Module loaded)
value_or_group env (a_package targets) = Done (value.Package targets)
value_or_group env (a_fault code site) = faulty code site.path site.line
value_or_group env (a_need patterns) = Ask (glob_group env.package_name patterns)

-- an outcome that waits continues when its group is answered
abbrev pub goes_on : (Env → List Value → Reply Key Value) → Env → Outcome → List Value → Reply Key Value
goes_on more env (a_module loaded) answers = value_or_group env (a_module loaded)
goes_on more env (a_package targets) answers = value_or_group env (a_package targets)
goes_on more env (a_fault code site) answers = value_or_group env (a_fault code site)
goes_on more env (a_need patterns) answers =
    if nat_lt (length answers) (length (glob_group env.package_name patterns)) then Ask (glob_group env.package_name patterns)
    else more (with_paths env patterns answers) (drop (length (glob_group env.package_name patterns)) answers)

-- at most this many times
abbrev pub rounds : ℕ → Env → List Value → Reply Key Value
rounds zero env answers = value_or_group env (evaluate env)
rounds (suc n) env answers = goes_on (λ e a. rounds n e a) env (evaluate env) answers

-- ---- the turns

abbrev pub after_modules : Source → Fi → Result (List ModuleValue) Fault → List Value → Reply Key Value
after_modules source file (Err f) answers = Done (value.Fault f)
after_modules source file (Ok loads) answers = rounds (length answers) (env_of source file loads) answers

-- all modules of the loads are one group
abbrev pub after_loads : Source → Fi → Result (List Key) Fault → List Value → Reply Key Value
after_loads source file (Err f) answers = Done (value.Fault f)
after_loads source file (Ok keys) answers =
    if nat_lt (length answers) (length (once keys)) then Ask (once keys)
    else after_modules source file (all_modules source.path (once keys) keys answers) (drop (length (once keys)) answers)

abbrev pub after_parse : Source → Result Fi tokens.Fault → List Value → Reply Key Value
after_parse source (Err f) answers = faulty f.code source.path f.line
after_parse source (Ok file) answers = after_loads source file (each_or_fault (load_key source) file.loads) answers

abbrev pub text_in : Value → Option (List ℕ)
text_in (value.File text) = text
text_in (value.Listing names) = None
text_in (value.Lookup name) = None
text_in (value.Paths paths) = None
text_in (value.Module loaded) = None
text_in (value.Package targets) = None
text_in (value.Fault f) = None
text_in (value.Cycle labels) = None

abbrev pub after_text : Source → Option (List ℕ) → List Value → Reply Key Value
after_text source None answers = faulty NO_MODULE source.path 0
after_text source (Some text) answers = after_parse source (parse_of source.kind text) answers

-- The file; then all modules of its loads; then, at each call of `glob` that stops the evaluation, the globs of its
-- patterns. The first fault that applies ends it: 16 of a file that does not exist; that of the parse; 15 of the first
-- load that names no module; that of the first load whose module is faulty, unchanged; that of the evaluation.
abbrev pub by_file : Source → List Value → Reply Key Value
by_file source [] = Ask (key.File source.path ∷ [])
by_file source (file ∷ answers) = after_text source (text_in file) answers
