-- Each line has a reply from each state.
use Rattle.std.proofs.Common.{refl, ℕ, List, [], ◌∷◌, Bool, true, false}
use Rattle.std.specs.Prelude.{Option, Some, None, option_and_then, codes}
use Rattle.base_lines.specs.Lines.{is_too_long}
use Rattle.filetree.specs.Files.{Files}
use Rattle.functions_directories.specs.Lookups.{build_of}
use Rattle.functions_directories.specs.Below.{packages_below}
use Rattle.labels.specs.Labels.{Target}
use Rattle.functions.proofs.Existence.{some_module_held, some_package_held}
use Rattle.loader_replies.specs.Answers.{packages_data}
use Rattle.serde_json.specs.Data.{Data}
use Rattle.loader_commands.specs.Commands.{Command, change, ask, Request, find, load, module_of, under, data_of, command_of}
use Rattle.loader_commands.specs.Refusals.{request_refusal, refusal_without, module_label}
use Rattle.loader_answers.specs.State.{State, refusal_of}
use Rattle.loader.specs.Laws.{SomeAnswer, SomeAnswerEach}
use Rattle.loader_answers.specs.Answers.{one_member, build_text, refusal_reply, edit_answer, package_shown, module_shown, ArePackagesShown, IsModuleShown, IsValueOf, IsUnlessRefused, IsAnswerTo, IsAnswerIf, IsAnswerOf, line_state}

packages_there : (files : Files) (names : List (List ℕ)) → (ds : List Data) × ArePackagesShown files names ds
packages_there files [] = ([], tt)
packages_there files (name ∷ names) =
    let one = some_package_held files name in
    let rest = packages_there files names in
    (package_shown name one.0 ∷ rest.0, ((one.0, one.1, refl), rest.1))

-- a module that is asked for
module_there : (files : Files) (o : Option Target) (P : Data → Type 0) → ((d : Data) → IsModuleShown files o d → P d) → (d : Data) × IsUnlessRefused (refusal_without o) P d
module_there files None P f = (refusal_reply 5, refl)
module_there files (Some t) P f = let one = some_module_held files t in (module_shown one.0, f (module_shown one.0) (one.0, one.1, refl))

unless_refused : (o : Option ℕ) (P : Data → Type 0) → (d : Data) → P d → (e : Data) × IsUnlessRefused o P e
unless_refused (Some n) P d is = (refusal_reply n, refl)
unless_refused None P d is = (d, is)

request_answered : (files : Files) (request : Request) → (d : Data) × IsUnlessRefused (request_refusal request) (IsValueOf request files) d
request_answered files (find name) = unless_refused (request_refusal (find name)) (IsValueOf (find name) files) (one_member (codes "build") (build_text (build_of files name))) refl
request_answered files (load names) = let there = packages_there files names in unless_refused (request_refusal (load names)) (IsValueOf (load names) files) (packages_data there.0) (there.0, there.1, refl)
request_answered files (module_of label) = module_there files (module_label label) (IsValueOf (module_of label) files) (λ d is. is)
request_answered files (under directory) = let there = packages_there files (packages_below files directory) in unless_refused (request_refusal (under directory)) (IsValueOf (under directory) files) (packages_data there.0) (there.0, there.1, refl)

command_answered : (command : Command) (s : State) → (d : Data) × IsAnswerTo command s d
command_answered (change edit) s = (edit_answer s (refusal_of edit s), refl)
command_answered (ask request) s = request_answered s.files request

if_answered : (o : Option Command) (s : State) → (d : Data) × IsAnswerIf o s d
if_answered None s = (refusal_reply 1, refl)
if_answered (Some command) s = command_answered command s

line_answered : (long : Bool) (line : List ℕ) (s : State) → (d : Data) × IsAnswerOf long line s d
line_answered true line s = (refusal_reply 6, refl)
line_answered false line s = if_answered (option_and_then command_of (data_of line)) s

pub some_answer : SomeAnswer
some_answer line s = line_answered (is_too_long line) line s

pub some_answer_each : SomeAnswerEach
some_answer_each s [] = ([], tt)
some_answer_each s (line ∷ lines) =
    let one = some_answer line s in
    let rest = some_answer_each (line_state line s) lines in
    (one.0 ∷ rest.0, (one.1, rest.1))
