-- What a line does: nothing to files and graph, an accepted edit, or a request that is evaluated, once or twice.
use Rattle.std.specs.Prelude.{◌≡◌, ◌⊎◌, ℕ, List, [], ◌∷◌, ◌++◌, map, Option, Some, None, option_and_then, option_map, Ok, if◌then◌else◌}
use Rattle.engine_semantics.specs.Graph.{MarksDirty}
use Rattle.engine_semantics.specs.Value.{HasValue, In}
use Rattle.labels.specs.Labels.{Target, label_text}
use Rattle.filetree.specs.Files.{Files}
use Rattle.functions_directories.specs.Below.{packages_below}
use Rattle.functions.specs.Next.{next}
use Rattle.keys.specs.Leaves.{read}
use Rattle.keys.specs.Cycles.{cycle}
use Rattle.keys.specs.declared.key.Key.{Key}
use Rattle.keys.specs.declared.value.Value.{Value}
use Rattle.keys.specs.declared.key.Key.TheVariants as key
use Rattle.base_lines.specs.Lines.{is_too_long}
use Rattle.node.specs.Graphs.{GraphView, record_at, present, IsTouched}
use Rattle.round_nodes.specs.declared.run.Run.{Run}
use Rattle.node.specs.Laws.{IsConsistentFor}
use Rattle.round_nodes.specs.Invariants.{Past, IsAfter}
use Rattle.round.specs.Call.{Calls}
use Rattle.loader_answers.specs.State.{State, Edit, Refusal, refusal_of}
use Rattle.loader_answers.specs.Sessions.{SessionView, IsConsistent, files_of, paths_of}
use Rattle.loader_commands.specs.Refusals.{request_refusal, module_label}
use Rattle.loader_commands.specs.Commands.{Command, change, ask, Request, find, load, module_of, under, data_of, command_of}
use Rattle.loader_answers.specs.Answers.{line_state}
use Rattle.loader_answers.specs.Journal.{Evaluation}

pub data Effect : Type 0 where
  nothing : Effect
  edited : Edit → Effect
  asked : Evaluation → Option Evaluation → Effect

abbrev pub module_roots : Option Target → List Key
module_roots None = []
module_roots (Some t) = key.Module (label_text t) ∷ []

abbrev pub package_roots : List (List ℕ) → List Key
package_roots names = map (λ name. key.Package name) names

-- the keys that a request asks for: for `find` a look-up, for `load` a package for each name, for `module` the module,
-- for `under` the names of all packages at and below the directory
abbrev pub request_roots : Request → List Key
request_roots (find name) = key.Lookup name ∷ []
request_roots (load names) = package_roots names
request_roots (module_of label) = module_roots (module_label label)
request_roots (under directory) = key.Under directory ∷ []

-- the keys that it asks for then: for `under` those packages
abbrev pub later_roots : Request → Files → Option (List Key)
later_roots (find name) files = None
later_roots (load names) files = None
later_roots (module_of label) files = None
later_roots (under directory) files = Some (package_roots (packages_below files directory))

abbrev pub last_roots : List Key → Option (List Key) → List Key
last_roots roots None = roots
last_roots roots (Some later) = later

-- the keys that its reply is about
abbrev pub reply_roots : Request → Files → List Key
reply_roots request files = last_roots (request_roots request) (later_roots request files)

abbrev pub unless_refused : Option ℕ → Effect → Effect
unless_refused (Some n) effect = nothing
unless_refused None effect = effect

abbrev pub at_version : ℕ → List Key → Evaluation
at_version version roots = record { version = version; roots = roots }

-- its first evaluation, and the second if it has one
abbrev pub evaluations : Request → State → Effect
evaluations request s = asked (at_version s.version (request_roots request)) (option_map (at_version s.version) (later_roots request s.files))

-- a refused request is not evaluated
abbrev pub request_effect : Request → State → Effect
request_effect request s = unless_refused (request_refusal request) (evaluations request s)

abbrev pub edit_effect : Edit → Option Refusal → Effect
edit_effect edit None = edited edit
edit_effect edit (Some r) = nothing

abbrev pub command_effect : Command → State → Effect
command_effect (change edit) s = edit_effect edit (refusal_of edit s)
command_effect (ask request) s = request_effect request s

abbrev pub effect_if : Option Command → State → Effect
effect_if None s = nothing
effect_if (Some command) s = command_effect command s

abbrev pub line_effect : List ℕ → State → Effect
line_effect line s = if is_too_long line then nothing else effect_if (option_and_then command_of (data_of line)) s

-- the effects of lines, from a state on
abbrev pub effects : State → List (List ℕ) → List Effect
effects s [] = []
effects s (line ∷ lines) = line_effect line s ∷ effects (line_state line s) lines

-- the accepted edits
abbrev pub edits_in : List Effect → List Edit
edits_in [] = []
edits_in (nothing ∷ effects) = edits_in effects
edits_in (edited edit ∷ effects) = edit ∷ edits_in effects
edits_in (asked request later ∷ effects) = edits_in effects

abbrev pub and_later : Evaluation → Option Evaluation → List Evaluation
and_later request None = request ∷ []
and_later request (Some later) = request ∷ later ∷ []

-- the requests that are evaluated, each with its evaluations
abbrev pub requests_in : List Effect → List (List Evaluation)
requests_in [] = []
requests_in (nothing ∷ effects) = requests_in effects
requests_in (edited edit ∷ effects) = requests_in effects
requests_in (asked request later ∷ effects) = and_later request later ∷ requests_in effects

-- one evaluation: the law of a call is true of the graph, and nothing else changes
abbrev pub Evaluates : Evaluation → SessionView → SessionView → List Run → Type 0
Evaluates request old new runs = (new.began ≡ old.began) × (new.edits ≡ old.edits) × (request.version ≡ old.graph.version) × Calls next (read (files_of old)) request.roots old.graph new.graph (Ok runs)

-- one evaluation, or two, the second from where the first ends
abbrev pub EvaluatesEach : Evaluation → Option Evaluation → SessionView → SessionView → List Run → Type 0
EvaluatesEach request None old new runs = Evaluates request old new runs
EvaluatesEach request (Some later) old new runs =
    (mid : SessionView) × (first rest : List Run) × IsConsistent mid × (runs ≡ first ++ rest) × Evaluates request old mid first × Evaluates later mid new rest

-- what an effect makes of a session, with these runs
abbrev pub Performs : Effect → SessionView → SessionView → List Run → Type 0
Performs nothing old new runs = (new ≡ old) × (runs ≡ [])
-- the records that the edit's paths reach are marked dirty in the graph
Performs (edited edit) old new runs = (runs ≡ []) × (new.began ≡ old.began) × (new.edits ≡ old.edits ++ edit ∷ []) × MarksDirty (record_at old.graph) (record_at new.graph) (IsTouched (paths_of edit))
Performs (asked request later) old new runs = EvaluatesEach request later old new runs

-- each of these keys has a value at the files, and has it in the graph
abbrev pub AreSettled : Files → List Key → GraphView → Type 0
AreSettled files keys graph = (k : Key) → In k keys → (v : Value) × HasValue next (read files) cycle k v × (present (record_at graph k) ≡ Some v)

-- after a stop the graph is consistent for each history for which it was, no record is lost, and none that was settled
-- has changed
abbrev pub StopsAfter : List Key → SessionView → SessionView → Type 0
StopsAfter roots old new = (past : Past (read (files_of old))) → past.entry ≡ old.graph → past.roots ≡ roots → IsConsistentFor next past.reads past.edits old.graph → IsAfter next (read (files_of old)) past new.graph

-- after a stop of the first evaluation, or of a second one after the first went well
abbrev pub StopsIn : List Key → Option (List Key) → SessionView → SessionView → Type 0
StopsIn roots None old new = StopsAfter roots old new
StopsIn roots (Some later) old new =
    StopsAfter roots old new ⊎ ((mid : SessionView) × (runs : List Run) × Evaluates (at_version old.graph.version roots) old mid runs × IsConsistent mid × StopsAfter later mid new)

-- after a stop of a request
abbrev pub StopsRequest : Request → SessionView → SessionView → Type 0
StopsRequest request old new = StopsIn (request_roots request) (later_roots request (files_of old)) old new
