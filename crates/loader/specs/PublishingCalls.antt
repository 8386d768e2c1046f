-- What the calls that publish a load promise.
use Rattle.std.specs.Prelude.{◌≡◌, ◌⊎◌, ℕ, List, Option, string_bytes}
use Rattle.std.specs.Borrow.{Bor}
use Rattle.loader_commands.specs.Commands.{load}
use Rattle.loader_commands.specs.View.{request_seen, texts_seen}
use Rattle.loader_commands.specs.declared.command.Request.{Request}
use Rattle.shelf.specs.Shelves.{published_by, shown_by}
use Rattle.shelf.specs.declared.keeper.Keeper.{Keeper}
use Rattle.shelf.specs.declared.reader.Told.{Told}
use Rattle.loader_answers.specs.Answers.{IsRequestAnswer, Tells}
use Rattle.loader_answers.specs.Effects.{Performs, request_effect}
use Rattle.loader_answers.specs.Publishing.{Entries, AreEntries, Publishes, Shows, names_to_publish}
use Rattle.loader_answers.specs.Sessions.{SessionView, IsConsistent, files_of, state_of}
use Rattle.loader.specs.declared.session.Reply.{Reply}

-- the text of the reply is that of an answer to the load of these names at the session's files
abbrev pub IsReplyToLoad : List (Bor (List ℕ)) → SessionView → Reply → Type 0
IsReplyToLoad names session reply = Tells (IsRequestAnswer (load (texts_seen names)) (files_of session)) (string_bytes reply.text)

-- the session moved as the load of these names says, with the runs of the reply
abbrev pub RunsLoad : List (Bor (List ℕ)) → SessionView → SessionView → Reply → Type 0
RunsLoad names old new reply = Performs (request_effect (load (texts_seen names)) (state_of old)) old new reply.runs.items

-- the entries are one for each distinct name, with the text of its package at the session's files
abbrev pub AreEntriesOf : List (Bor (List ℕ)) → SessionView → Entries → Type 0
AreEntriesOf names session entries = AreEntries (files_of session) (texts_seen names) entries

-- the session keeps the history of its files and its version, and its graph is consistent
abbrev pub KeepsHistory : SessionView → SessionView → Type 0
KeepsHistory old new = (new.began ≡ old.began) × (new.edits ≡ old.edits) × (new.graph.version ≡ old.graph.version) × IsConsistent new

module _ {R : Type 0} where
  -- the keeper has one more publish, of the packages that the request loads, at the session's files and version
  abbrev pub PublishesLoad : Request → SessionView → Keeper R → Keeper R → Type 0
  PublishesLoad request session before after = Publishes (files_of session) session.graph.version (names_to_publish (request_seen request)) (published_by before) (published_by after)

  -- readers are shown the packages that the request loads, and it is made known
  abbrev pub ShowsLoad : Request → Option Told → Keeper R → Keeper R → Type 0
  ShowsLoad request told before after = Shows (names_to_publish (request_seen request)) told before after

  -- the publish was taken up or not, and readers are shown what they were
  abbrev pub KeepsShown : Request → SessionView → Keeper R → Keeper R → Type 0
  KeepsShown request session before after = ((published_by after ≡ published_by before) ⊎ PublishesLoad request session before after) × (shown_by after ≡ shown_by before)
