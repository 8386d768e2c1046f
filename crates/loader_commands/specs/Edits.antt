-- Edits: why they are refused, and what they make of the files.
use Rattle.filetree.specs.declared.refusals.TheConstants.{CHANGES_COUNT, VERSIONS_SPENT}
use Rattle.std.specs.Prelude.{◌≡◌, ℕ, List, [], ◌∷◌, length, ◌||◌, ◌==◌, nat_lt, Option, Some, None, option_map, Result, Ok, Err, Bool, true, false, if◌then◌else◌}
use Rattle.filetree.specs.Files.{Files}
use Rattle.filetree.specs.Changes.{change_refusal, changes_refusal, all_changed}
pub use Rattle.loader_commands.specs.Commands.{Edit, one, batch, Change, put, del, changes_of, paths_of}
use Rattle.loader_commands.specs.declared.error.EditError.{EditError}
use Rattle.loader_commands.specs.declared.error.EditError.TheVariants.{Refused, RefusedAt, Memory}

-- why an edit is refused: by a number, or a change of a batch, by its place among them from 0 on, with a number
pub data Refusal : Type 0 where
  plain : ℕ → Refusal
  at_change : ℕ → ℕ → Refusal

abbrev pub refusal_at : ℕ × ℕ → Refusal
refusal_at (at, n) = at_change at n

-- the first refusal by the changes and the files: a batch has 1 to 256 changes
abbrev pub files_refusal : Edit → Files → Option Refusal
files_refusal (one c) files = option_map plain (change_refusal c files)
files_refusal (batch cs) files =
    if length cs == 0 || nat_lt 256 (length cs) then Some (plain CHANGES_COUNT) else option_map refusal_at (changes_refusal cs files)

-- the greatest version
abbrev pub version_limit : ℕ
version_limit = 4294967295

-- the first refusal by the changes and the files, and then by the version
abbrev pub or_version_refusal : Option Refusal → ℕ → Option Refusal
or_version_refusal (Some r) version = Some r
or_version_refusal None version = if nat_lt version version_limit then None else Some (plain VERSIONS_SPENT)

-- the files after an edit: its changes are made in their order
abbrev pub changed_files : Edit → Files → Files
changed_files edit files = all_changed (changes_of edit) files

-- the error has the refusal; or an allocation failed, and nothing is said
abbrev pub TellsRefusal : Option Refusal → EditError → Type 0
TellsRefusal refusal (Refused n) = refusal ≡ Some (plain n)
TellsRefusal refusal (RefusedAt at n) = refusal ≡ Some (at_change at n)
TellsRefusal refusal (Memory _) = Unit {0}

-- the files are edited; or they stay as they are, and the error has the first refusal or a failed allocation
abbrev pub EditsFiles : {A : Type 0} → Edit → Files → Files → Result A EditError → Type 0
EditsFiles edit before after (Ok _) = (files_refusal edit before ≡ None) × (after ≡ changed_files edit before)
EditsFiles edit before after (Err e) = TellsRefusal (files_refusal edit before) e × (after ≡ before)

-- a change as it is kept: its path, and the text that is put there
abbrev pub change_of : List ℕ × Option (List ℕ) → Change
change_of (path, Some text) = put path text
change_of (path, None) = del path

-- an edit as it is kept: its changes, and whether they are a batch
abbrev pub edit_of : List Change × Bool → Edit
edit_of (cs, true) = batch cs
edit_of ([], false) = batch []
edit_of (c ∷ cs, false) = one c
