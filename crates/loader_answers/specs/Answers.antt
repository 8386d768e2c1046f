-- Which replies an input has, from the present files alone.
use Rattle.filetree.specs.declared.refusals.TheConstants.{LINE_TOO_LONG, NO_COMMAND}
use Rattle.std.specs.Prelude.{◌≡◌, ℕ, ◌+◌, List, [], ◌∷◌, ◌++◌, Bool, true, false, Option, Some, None, option_and_then, codes, if◌then◌else◌}
use Rattle.base_lines.specs.Lines.{is_too_long}
use Rattle.filetree.specs.Files.{Files}
use Rattle.keys.specs.declared.value.BuildName.{BuildName}
use Rattle.keys.specs.declared.value.BuildName.TheVariants.{BuildBazel, Build}
use Rattle.labels.specs.Labels.{Target}
use Rattle.keys.specs.declared.value.Value.{Value}
use Rattle.keys.specs.declared.value.Value.TheVariants as value
use Rattle.functions_directories.specs.Lookups.{build_of}
use Rattle.functions_directories.specs.Below.{packages_below}
use Rattle.functions.specs.FilePackages.{HoldsPackage, HoldsModule}
use Rattle.loader_replies.specs.Answers.{package_data, faulty_package, packages_data, fault_data, cycle_data, module_data, faulty_module}
use Rattle.serde_json.specs.Data.{Data, null, string, number, unsigned, object, no_members, member}
use Rattle.serde_json.specs.Written.{compact_text}
use Rattle.loader_answers.specs.State.{State, Edit, Refusal, plain, at_change, refusal_of, state_after_edit}
use Rattle.loader_commands.specs.Refusals.{request_refusal, module_label}
use Rattle.loader_commands.specs.Commands.{Command, change, ask, Request, find, load, module_of, under, data_of, command_of}

abbrev pub one_member : List ℕ → Data → Data
one_member key d = object (member key d no_members)

abbrev pub refusal_reply : ℕ → Data
refusal_reply n = one_member (codes "refused") (number (unsigned n))

-- the change of a batch that is refused, by its place among them from 0 on
abbrev pub refused_at : ℕ → ℕ → Data
refused_at at n = object (member (codes "edit") (number (unsigned at)) (member (codes "refused") (number (unsigned n)) no_members))

abbrev pub refusal_data : Refusal → Data
refusal_data (plain n) = refusal_reply n
refusal_data (at_change at n) = refused_at at n

abbrev pub accepted_reply : ℕ → Data
accepted_reply version = one_member (codes "ok") (number (unsigned version))

-- the name of a build file, or null
abbrev pub build_text : Option BuildName → Data
build_text (Some BuildBazel) = string (codes "BUILD.bazel")
build_text (Some Build) = string (codes "BUILD")
build_text None = null

-- a package, or its fault, or the cycle to which its loads lead
abbrev pub package_shown : List ℕ → Value → Data
package_shown name (value.File text) = null
package_shown name (value.Listing names) = null
package_shown name (value.Lookup build) = null
package_shown name (value.Paths paths) = null
package_shown name (value.Module m) = null
package_shown name (value.Package targets) = package_data name targets
package_shown name (value.Fault f) = faulty_package name (fault_data f.code f.path f.line)
package_shown name (value.Cycle labels) = faulty_package name (cycle_data labels)

-- a module, likewise
abbrev pub module_shown : Value → Data
module_shown (value.File text) = null
module_shown (value.Listing names) = null
module_shown (value.Lookup build) = null
module_shown (value.Paths paths) = null
module_shown (value.Module m) = module_data m.body
module_shown (value.Package targets) = null
module_shown (value.Fault f) = faulty_module (fault_data f.code f.path f.line)
module_shown (value.Cycle labels) = faulty_module (cycle_data labels)

-- the package with a name that the files mean
abbrev pub IsPackageShown : Files → List ℕ → Data → Type 0
IsPackageShown files name d = (v : Value) × HoldsPackage files name v × (d ≡ package_shown name v)

-- the packages with several names, in their order, repeats too
abbrev pub ArePackagesShown : Files → List (List ℕ) → List Data → Type 0
ArePackagesShown files [] [] = Unit {0}
ArePackagesShown files [] (d ∷ ds) = ⊥
ArePackagesShown files (name ∷ names) [] = ⊥
ArePackagesShown files (name ∷ names) (d ∷ ds) = IsPackageShown files name d × ArePackagesShown files names ds

-- the module with a label that the files mean
abbrev pub IsModuleShown : Files → Option Target → Data → Type 0
IsModuleShown files None d = ⊥
IsModuleShown files (Some t) d = (v : Value) × HoldsModule files t v × (d ≡ module_shown v)

-- the reply to a request that is not refused
abbrev pub IsValueOf : Request → Files → Data → Type 0
IsValueOf (find name) files d = d ≡ one_member (codes "build") (build_text (build_of files name))
IsValueOf (load names) files d = (ds : List Data) × ArePackagesShown files names ds × (d ≡ packages_data ds)
IsValueOf (module_of label) files d = IsModuleShown files (module_label label) d
IsValueOf (under directory) files d = (ds : List Data) × ArePackagesShown files (packages_below files directory) ds × (d ≡ packages_data ds)

abbrev pub IsUnlessRefused : Option ℕ → (Data → Type 0) → Data → Type 0
IsUnlessRefused (Some n) P d = d ≡ refusal_reply n
IsUnlessRefused None P d = P d

-- the first refusal, or a reply
abbrev pub IsRequestAnswer : Request → Files → Data → Type 0
IsRequestAnswer request files d = IsUnlessRefused (request_refusal request) (IsValueOf request files) d

-- the first refusal, or the new version
abbrev pub edit_answer : State → Option Refusal → Data
edit_answer s (Some r) = refusal_data r
edit_answer s None = accepted_reply (s.version + 1)

-- no change, or the change
abbrev pub edited_state : Edit → State → Option Refusal → State
edited_state edit s (Some r) = s
edited_state edit s None = state_after_edit edit s

abbrev pub IsAnswerTo : Command → State → Data → Type 0
IsAnswerTo (change edit) s d = d ≡ edit_answer s (refusal_of edit s)
IsAnswerTo (ask request) s d = IsRequestAnswer request s.files d

abbrev pub state_by : Command → State → State
state_by (change edit) s = edited_state edit s (refusal_of edit s)
state_by (ask request) s = s

abbrev pub IsAnswerIf : Option Command → State → Data → Type 0
IsAnswerIf (Some command) s d = IsAnswerTo command s d
IsAnswerIf None s d = d ≡ refusal_reply NO_COMMAND

abbrev pub state_if : Option Command → State → State
state_if (Some command) s = state_by command s
state_if None s = s

abbrev pub IsAnswerOf : Bool → List ℕ → State → Data → Type 0
IsAnswerOf true line s d = d ≡ refusal_reply LINE_TOO_LONG
IsAnswerOf false line s d = IsAnswerIf (option_and_then command_of (data_of line)) s d

-- a reply to a line
abbrev pub IsAnswer : List ℕ → State → Data → Type 0
IsAnswer line s d = IsAnswerOf (is_too_long line) line s d

-- the state after the line
abbrev pub line_state : List ℕ → State → State
line_state line s = if is_too_long line then s else state_if (option_and_then command_of (data_of line)) s

abbrev pub state_after : State → List (List ℕ) → State
state_after s [] = s
state_after s (line ∷ lines) = state_after (line_state line s) lines

-- a reply to each line, from a state on
abbrev pub AreAnswers : State → List (List ℕ) → List Data → Type 0
AreAnswers s [] [] = Unit {0}
AreAnswers s [] (d ∷ answers) = ⊥
AreAnswers s (line ∷ lines) [] = ⊥
AreAnswers s (line ∷ lines) (d ∷ answers) = IsAnswer line s d × AreAnswers (line_state line s) lines answers

-- the bytes of a reply
abbrev pub answer_text : Data → List ℕ
answer_text d = compact_text d ++ 10 ∷ []

-- the bytes of several replies, in their order
abbrev pub texts : List Data → List ℕ
texts [] = []
texts (d ∷ answers) = answer_text d ++ texts answers

-- a text that is such a reply
abbrev pub Tells : (Data → Type 0) → List ℕ → Type 0
Tells P text = (d : Data) × P d × (text ≡ compact_text d)
