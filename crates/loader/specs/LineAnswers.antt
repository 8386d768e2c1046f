-- How a line gets its reply, in steps.
use Rattle.std.specs.Prelude.{◌≡◌, ℕ, ◌+◌, ◌≤◌, ◌++◌, List, [], Option, Some, None, string_bytes}
use Rattle.loader_commands.specs.Commands.{Command, ask}
use Rattle.loader_commands.specs.Refusals.{request_refusal}
use Rattle.loader_commands.specs.View.{request_seen}
use Rattle.round_nodes.specs.declared.run.Run.{Run}
use Rattle.round_nodes.specs.TurnCounts.{turns_of}
use Rattle.serde_json.specs.Data.{Data}
use Rattle.loader_answers.specs.Answers.{IsAnswer, IsAnswerIf, Tells, answer_text, line_state, state_if}
use Rattle.loader_answers.specs.Effects.{Performs, effect_if, line_effect}
use Rattle.loader_answers.specs.Sessions.{SessionView, state_of}
use Rattle.loader.specs.declared.session.LineKind.{LineKind}
use Rattle.loader.specs.declared.session.LineKind.TheVariants.{Refused, Edited, Request}

-- the reply to a line is known before anything is evaluated, and the session changed as it says
abbrev pub IsToldAtOnce : Option Command → SessionView → SessionView → List ℕ → Type 0
IsToldAtOnce command old new text = Tells (IsAnswerIf command (state_of old)) text × (state_of new ≡ state_if command (state_of old)) × Performs (effect_if command (state_of old)) old new []

-- what is done for a command, or for none, before anything is evaluated
abbrev pub Begins : Option Command → SessionView → SessionView → LineKind → Type 0
Begins command old new (Refused text facts) = IsToldAtOnce command old new (string_bytes text)
Begins command old new (Edited text edit) = IsToldAtOnce command old new (string_bytes text)
Begins command old new (Request request) = (command ≡ Some (ask (request_seen request))) × (new ≡ old) × (request_refusal (request_seen request) ≡ None)

-- the session changed as the line says, with these runs, and the bytes are those of a reply
pub record AnswersLine (line : List ℕ) (old new : SessionView) (text : List ℕ) (runs : List Run) : Type 0 where
  pub told : (d : Data) × IsAnswer line (state_of old) d × (text ≡ answer_text d)
  pub state : state_of new ≡ line_state line (state_of old)
  pub moves : Performs (line_effect line (state_of old)) old new runs

-- the line has its reply, and its runs, in at most `budget` turns, are added to those before
abbrev pub AddsLine : List ℕ → ℕ → SessionView → SessionView → List ℕ → List Run → List Run → Type 0
AddsLine line budget old new text before after = (runs : List Run) × (after ≡ before ++ runs) × (turns_of runs ≤ budget) × AnswersLine line old new text runs

-- one more line is counted, if lines are counted
abbrev pub IsOneMore : Option ℕ → Option ℕ → Type 0
IsOneMore None lines = lines ≡ None
IsOneMore (Some n) lines = lines ≡ Some (n + 1)
