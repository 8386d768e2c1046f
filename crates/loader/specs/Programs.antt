-- What the program does to its reader and its writer, in the words of the standard library: the bytes that a reader has
-- left and those that a writer has, each where they are known.
use Rattle.std.specs.Prelude.{◌≡◌, ℕ, List, [], ◌++◌, Option, Some, IfSome, OnSome}
use Rattle.serde_json.specs.Data.{Data}
use Rattle.base_lines.specs.Lines.{lines_of}
use Rattle.loader_answers.specs.State.{start}
use Rattle.loader_answers.specs.Answers.{AreAnswers, texts}
use Rattle.loader.specs.Service.{IsBeginning}

-- The reader had this input and has nothing left. The writer has what it had, followed by the replies to the lines of
-- the input, from no files, each by the files at its line alone.
pub record AnswersAll (unread left held holds : Option (List ℕ)) : Type 0 where
  pub input : List ℕ
  pub answers : List Data
  pub input_is : IfSome unread (λ bytes. bytes ≡ input)
  pub nothing_left : OnSome unread (left ≡ Some [])
  pub are : AreAnswers start (lines_of input) answers
  pub output_is : IfSome held (λ bytes. holds ≡ Some (bytes ++ texts answers))

-- The reader had this input and has an end of it left. The writer has what it had, followed by a beginning of the
-- replies.
pub record AnswersPart (unread left held holds : Option (List ℕ)) : Type 0 where
  pub input : List ℕ
  pub answers : List Data
  pub written : List ℕ
  pub input_is : IfSome unread (λ bytes. bytes ≡ input)
  pub end_left : OnSome unread ((read : List ℕ) × (rest : List ℕ) × (input ≡ read ++ rest) × (left ≡ Some rest))
  pub are : AreAnswers start (lines_of input) answers
  pub begins : IsBeginning written (texts answers)
  pub output_is : IfSome held (λ bytes. holds ≡ Some (bytes ++ written))
