-- What a session and the journal so far are to the lines that have got their replies.
use Rattle.std.specs.Prelude.{◌≡◌, ℕ, List}
use Rattle.filetree.specs.Files.{Files}
use Rattle.round_nodes.specs.declared.run.Run.{Run}
use Rattle.loader_answers.specs.State.{start}
use Rattle.loader_answers.specs.Sessions.{SessionView, IsHistory, IsConsistent, files_at, paths_at}
use Rattle.loader_answers.specs.Effects.{effects, edits_in, requests_in}
use Rattle.loader_answers.specs.Journal.{IsJournal}
use Rattle.loader_answers.specs.GraphLinks.{IsToldBy}

-- the journal of lines: that of their requests, in the history of their accepted edits, with at most `budget` turns for
-- all evaluations of a request
abbrev pub IsJournalOf : ℕ → List (List ℕ) → List Run → Type 0
IsJournalOf budget lines runs = IsJournal (files_at (edits_in (effects start lines))) (paths_at (edits_in (effects start lines))) budget (requests_in (effects start lines)) runs

-- a session that began at version 0 has accepted the edits of the lines, and its graph and the journal are those of
-- their requests
pub record IsKept (budget : ℕ) (session : SessionView) (lines : List (List ℕ)) (runs : List Run) : Type 0 where
  pub lawful : IsConsistent session
  pub began : session.began ≡ 0
  pub edits : session.edits ≡ edits_in (effects start lines)
  pub told : (files : ℕ → Files) (paths : ℕ → List (List ℕ)) → IsHistory files paths 0 session.edits → IsToldBy files paths budget session.graph (requests_in (effects start lines)) runs
