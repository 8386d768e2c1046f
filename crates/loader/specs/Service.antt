-- What serving did.
use Rattle.std.specs.Prelude.{◌≡◌, ◌⊎◌, ℕ, ◌<◌, List, [], ◌∷◌, ◌++◌, Bool, true, false}
use Rattle.base_lines.specs.Lines.{lines_of, IsWhole}
use Rattle.round_nodes.specs.declared.run.Run.{Run}
use Rattle.serde_json.specs.Data.{Data}
use Rattle.loader_answers.specs.State.{State, start}
use Rattle.loader_answers.specs.Sessions.{SessionView, state_of}
use Rattle.loader_answers.specs.Answers.{IsAnswer, AreAnswers, answer_text, texts, state_after}
use Rattle.loader.specs.LineJournal.{IsKept, IsJournalOf}

abbrev pub IsBeginning : List ℕ → List ℕ → Type 0
IsBeginning front all = (rest : List ℕ) × (all ≡ front ++ rest)

-- an input was read, a reply to each of its lines was written, and these runs are the journal of its lines, where all
-- evaluations of a request have at most `budget` turns together
pub record Served (budget : ℕ) (told_before told held_before held : List ℕ) (runs : List Run) : Type 0 where
  pub input : List ℕ
  pub answers : List Data
  pub told_is : told ≡ told_before ++ input
  pub are : AreAnswers start (lines_of input) answers
  pub held_is : held ≡ held_before ++ texts answers
  pub journal : IsJournalOf budget (lines_of input) runs

-- nothing, or a beginning of a reply to the first of these lines
pub data IsPart : List (List ℕ) → State → List ℕ → Type 0 where
  nothing : {lines : List (List ℕ)} {s : State} → IsPart lines s []
  of_next : {line : List ℕ} {lines : List (List ℕ)} {s : State} {part : List ℕ} (d : Data) → IsAnswer line s d → IsBeginning part (answer_text d) → IsPart (line ∷ lines) s part

-- An input was read, and a beginning of its replies was written: those to its first lines, and a part of the next one.
-- These lines had ended: with byte 10, or the device has reported its end since.
pub record Stopped (ends_before ends : ℕ) (told_before told held_before held : List ℕ) : Type 0 where
  pub input : List ℕ
  pub beyond : List ℕ
  pub answered : List (List ℕ)
  pub left : List (List ℕ)
  pub answers : List Data
  pub part : List ℕ
  pub told_is : told ≡ told_before ++ (input ++ beyond)
  pub ended : IsWhole input ⊎ ((ends_before < ends) × (beyond ≡ []))
  pub lines_are : lines_of input ≡ answered ++ left
  pub are : AreAnswers start answered answers
  pub begins : IsPart left (state_after start answered) part
  pub held_is : held ≡ held_before ++ (texts answers ++ part)

-- between two lines: those taken have their replies, the bytes that were read beyond them wait, and these are the
-- session and the runs so far
pub record Between (budget : ℕ) (told_before told held_before held waiting : List ℕ) (session : SessionView) (runs : List Run) : Type 0 where
  pub taken : List ℕ
  pub answers : List Data
  pub whole : IsWhole taken
  pub told_is : told ≡ told_before ++ (taken ++ waiting)
  pub are : AreAnswers start (lines_of taken) answers
  pub held_is : held ≡ held_before ++ texts answers
  pub state_is : state_of session ≡ state_after start (lines_of taken)
  pub kept : IsKept budget session (lines_of taken) runs

-- after one more line, if there may be more, or at the end
abbrev pub After : ℕ → Bool → List ℕ → List ℕ → List ℕ → List ℕ → List ℕ → SessionView → List Run → Type 0
After budget true told_before told held_before held waiting session runs = Between budget told_before told held_before held waiting session runs
After budget false told_before told held_before held waiting session runs = Served budget told_before told held_before held runs
