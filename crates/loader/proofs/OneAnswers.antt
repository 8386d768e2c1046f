-- The replies are a function of the lines.
use Rattle.std.proofs.Common.{◌≡◌, ◌∙◌, ap, sym, subst, refl, ◌⊎◌, inl, inr, ℕ, ◌<◌, List, [], ◌∷◌, ◌++◌, Bool, true, false, append_assoc}
use Rattle.std.specs.Prelude.{Option, Some, None, option_and_then}
use Rattle.std.proofs.lemmas.List.{append-nil, append_cancel_left}
use Rattle.base_lines.specs.Lines.{lines_of, IsWhole, is_too_long}
use Rattle.base_lines.proofs.Cuts.{whole_append}
use Rattle.filetree.specs.Files.{Files}
use Rattle.labels.specs.Labels.{Target}
use Rattle.functions_directories.specs.Below.{packages_below}
use Rattle.functions.proofs.Uniqueness.{one_module_held, one_package_held}
use Rattle.loader_replies.specs.Answers.{packages_data}
use Rattle.serde_json.specs.Data.{Data}
use Rattle.loader_commands.specs.Commands.{Command, change, ask, Request, find, load, module_of, under, data_of, command_of}
use Rattle.loader_commands.specs.Refusals.{request_refusal, module_label}
use Rattle.loader_answers.specs.State.{State, start}
use Rattle.loader_answers.specs.Answers.{package_shown, module_shown, IsPackageShown, ArePackagesShown, IsModuleShown, IsValueOf, IsUnlessRefused, IsAnswerTo, IsAnswerIf, IsAnswerOf, AreAnswers, line_state, state_after, answer_text, texts}
use Rattle.loader.specs.Service.{IsBeginning, IsPart, Stopped, nothing, of_next}
use Rattle.loader.specs.Laws.{OneAnswer, OneAnswerEach, OneOutput, StopsInOutput}

module _ (files : Files) where
  one_package : (name : List ℕ) (d e : Data) → IsPackageShown files name d → IsPackageShown files name e → d ≡ e
  one_package name d e a b = a.2 ∙ ap (package_shown name) (one_package_held files name a.0 b.0 a.1 b.1) ∙ sym b.2

  each_package : (names : List (List ℕ)) (ds es : List Data) → ArePackagesShown files names ds → ArePackagesShown files names es → ds ≡ es
  each_package [] [] [] a b = refl
  each_package [] [] (e ∷ es) a b = absurd b
  each_package [] (d ∷ ds) es a b = absurd a
  each_package (name ∷ names) [] es a b = absurd a
  each_package (name ∷ names) (d ∷ ds) [] a b = absurd b
  each_package (name ∷ names) (d ∷ ds) (e ∷ es) a b = ap (λ x. x ∷ ds) (one_package name d e a.0 b.0) ∙ ap (λ xs. e ∷ xs) (each_package names ds es a.1 b.1)

  one_module : (o : Option Target) (d e : Data) → IsModuleShown files o d → IsModuleShown files o e → d ≡ e
  one_module None d e a b = absurd a
  one_module (Some t) d e a b = a.2 ∙ ap module_shown (one_module_held files t a.0 b.0 a.1 b.1) ∙ sym b.2

  one_value : (request : Request) (d e : Data) → IsValueOf request files d → IsValueOf request files e → d ≡ e
  one_value (find name) d e a b = a ∙ sym b
  one_value (load names) d e a b = a.2 ∙ ap packages_data (each_package names a.0 b.0 a.1 b.1) ∙ sym b.2
  one_value (module_of label) d e a b = one_module (module_label label) d e a b
  one_value (under directory) d e a b = a.2 ∙ ap packages_data (each_package (packages_below files directory) a.0 b.0 a.1 b.1) ∙ sym b.2

one_unless_refused : (o : Option ℕ) (P : Data → Type 0) (d e : Data) → (P d → P e → d ≡ e) → IsUnlessRefused o P d → IsUnlessRefused o P e → d ≡ e
one_unless_refused (Some n) P d e one a b = a ∙ sym b
one_unless_refused None P d e one a b = one a b

one_answer_to : (command : Command) (s : State) (d e : Data) → IsAnswerTo command s d → IsAnswerTo command s e → d ≡ e
one_answer_to (change edit) s d e a b = a ∙ sym b
one_answer_to (ask request) s d e a b = one_unless_refused (request_refusal request) (IsValueOf request s.files) d e (one_value s.files request d e) a b

one_answer_if : (o : Option Command) (s : State) (d e : Data) → IsAnswerIf o s d → IsAnswerIf o s e → d ≡ e
one_answer_if None s d e a b = a ∙ sym b
one_answer_if (Some command) s d e a b = one_answer_to command s d e a b

one_answer_of : (long : Bool) (line : List ℕ) (s : State) (d e : Data) → IsAnswerOf long line s d → IsAnswerOf long line s e → d ≡ e
one_answer_of true line s d e a b = a ∙ sym b
one_answer_of false line s d e a b = one_answer_if (option_and_then command_of (data_of line)) s d e a b

pub one_answer : OneAnswer
one_answer line s d e a b = one_answer_of (is_too_long line) line s d e a b

pub one_answer_each : OneAnswerEach
one_answer_each s [] [] [] a b = refl
one_answer_each s [] [] (e ∷ es) a b = absurd b
one_answer_each s [] (d ∷ ds) es a b = absurd a
one_answer_each s (line ∷ lines) [] es a b = absurd a
one_answer_each s (line ∷ lines) (d ∷ ds) [] a b = absurd b
one_answer_each s (line ∷ lines) (d ∷ ds) (e ∷ es) a b =
    ap (λ x. x ∷ ds) (one_answer line s d e a.0 b.0) ∙ ap (λ xs. e ∷ xs) (one_answer_each (line_state line s) lines ds es a.1 b.1)

pub one_output : OneOutput
one_output budget budget' input told told' written written' held held' runs runs' a b =
    let same : a.input ≡ b.input = sym (append_cancel_left told input a.input a.told_is) ∙ append_cancel_left told' input b.input b.told_is in
    let one = one_answer_each start (lines_of b.input) a.answers b.answers (subst (λ (x : List ℕ). AreAnswers start (lines_of x) a.answers) same a.are) b.are in
    append_cancel_left held written (texts a.answers) a.held_is ∙ ap texts one ∙ sym (append_cancel_left held' written' (texts b.answers) b.held_is)

-- the replies to further lines begin with those to the first ones
begin_part : (s : State) (left more : List (List ℕ)) (part : List ℕ) (ds : List Data) → IsPart left s part → AreAnswers s (left ++ more) ds → IsBeginning part (texts ds)
begin_part s left more part ds nothing are = (texts ds, refl)
begin_part s left more part [] (of_next d is begins) are = absurd are
begin_part s left more part (e ∷ ds) (of_next {line = line} d is begins) are =
    (begins.0 ++ texts ds, ap (λ x. answer_text x ++ texts ds) (one_answer line s e d are.0 is) ∙ ap (λ r. r ++ texts ds) begins.1 ∙ append_assoc part begins.0 (texts ds))

begin_answers : (s : State) (answered left more : List (List ℕ)) (ds es : List Data) (part : List ℕ) → AreAnswers s answered ds → IsPart left (state_after s answered) part
    → AreAnswers s (answered ++ (left ++ more)) es → IsBeginning (texts ds ++ part) (texts es)
begin_answers s [] left more [] es part a begins b = begin_part s left more part es begins b
begin_answers s [] left more (d ∷ ds) es part a begins b = absurd a
begin_answers s (line ∷ answered) left more [] es part a begins b = absurd a
begin_answers s (line ∷ answered) left more (d ∷ ds) [] part a begins b = absurd b
begin_answers s (line ∷ answered) left more (d ∷ ds) (e ∷ es) part a begins b =
    let rest = begin_answers (line_state line s) answered left more ds es part a.1 begins b.1 in (
      rest.0,
      ap (λ x. answer_text x ++ texts es) (one_answer line s e d b.0 a.0) ∙ ap (λ r. answer_text d ++ r) rest.1
          ∙ sym (append_assoc (answer_text d) (texts ds ++ part) rest.0) ∙ ap (λ r. r ++ rest.0) (sym (append_assoc (answer_text d) (texts ds) part)),
    )

-- the lines of a longer input begin with those of one that ended
lines_begin : (input beyond more : List ℕ) → IsWhole input ⊎ (beyond ++ more ≡ []) → (later : List (List ℕ)) × (lines_of (input ++ (beyond ++ more)) ≡ lines_of input ++ later)
lines_begin input beyond more (inl w) = (lines_of (beyond ++ more), whole_append input (beyond ++ more) w)
lines_begin input beyond more (inr e) = ([], ap (λ r. lines_of (input ++ r)) e ∙ ap lines_of (append-nil input) ∙ sym (append-nil (lines_of input)))

begin_by : {front all front' all' : List ℕ} → front ≡ front' → all ≡ all' → IsBeginning front' all' → IsBeginning front all
begin_by e f begins = (begins.0, f ∙ begins.1 ∙ ap (λ r. r ++ begins.0) (sym e))

-- what a serving that stopped wrote is a beginning of the replies to any longer input, or to its own where the device
-- had reported its end
pub stop_begins : (ends ends' : ℕ) (input more told written held : List ℕ) → (ends < ends' → more ≡ []) → Stopped ends ends' told (told ++ input) held (held ++ written)
    → (answers : List Data) → AreAnswers start (lines_of (input ++ more)) answers → IsBeginning written (texts answers)
stop_begins ends ends' input more told written held only a answers are =
    let read : input ≡ a.input ++ a.beyond = append_cancel_left told input (a.input ++ a.beyond) a.told_is in
    let all : input ++ more ≡ a.input ++ (a.beyond ++ more) = ap (λ r. r ++ more) read ∙ append_assoc a.input a.beyond more in
    let over : IsWhole a.input ⊎ (a.beyond ++ more ≡ []) = elim a.ended [ inl w ↦ inl w | inr e ↦ inr (ap (λ r. r ++ more) e.1 ∙ only e.0) ] in
    let later = lines_begin a.input a.beyond more over in
    let cut : lines_of (input ++ more) ≡ a.answered ++ (a.left ++ later.0) = ap lines_of all ∙ later.1 ∙ ap (λ r. r ++ later.0) a.lines_are ∙ append_assoc a.answered a.left later.0 in
    let begins = begin_answers start a.answered a.left later.0 a.answers answers a.part a.are a.begins (subst (λ (ls : List (List ℕ)). AreAnswers start ls answers) cut are) in
    begin_by (append_cancel_left held written (texts a.answers ++ a.part) a.held_is) refl begins

pub stops_in_output : StopsInOutput
stops_in_output budget ends ends' input more told told' written written' held held' runs only a b =
    let all : b.input ≡ input ++ more = sym (append_cancel_left told' (input ++ more) b.input b.told_is) in
    let begins = stop_begins ends ends' input more told written held only a b.answers (subst (λ (x : List ℕ). AreAnswers start (lines_of x) b.answers) all b.are) in
    begin_by refl (append_cancel_left held' written' (texts b.answers) b.held_is) begins
