-- The files and their version, and what an edit makes of them.
use Rattle.std.specs.Prelude.{◌≡◌, refl, ℕ, ◌+◌, Option, None, Result, Ok, Err}
use Rattle.std.specs.FinMap as map
use Rattle.std.specs.Coded.{Coded, code_by, coded×, coded_ℕ, coded_list}
use Rattle.filetree.specs.Files.{Files}
pub use Rattle.loader_commands.specs.Edits.{Edit, one, batch, changes_of, Refusal, plain, at_change, files_refusal, version_limit, or_version_refusal, changed_files, TellsRefusal}
use Rattle.loader_commands.specs.declared.error.EditError.{EditError}

-- the present files, and how many edits were accepted
pub record State : Type 0 where
  pub files : Files
  pub version : ℕ

-- no files, at a version
abbrev pub start_at : ℕ → State
start_at version = record { files = map.empty; version = version }

abbrev pub start : State
start = start_at 0

-- the first refusal of an edit, if there is one
abbrev pub refusal_of : Edit → State → Option Refusal
refusal_of edit s = or_version_refusal (files_refusal edit s.files) s.version

-- the changed files, one version later
abbrev pub state_after_edit : Edit → State → State
state_after_edit edit s = record { files = changed_files edit s.files; version = s.version + 1 }

-- the edit is made, and its version returned; or its first refusal is returned, or an allocation failed, and nothing
-- changes
abbrev pub Applies : Edit → State → State → Result ℕ EditError → Type 0
Applies edit before after (Ok version) = (refusal_of edit before ≡ None) × (after ≡ state_after_edit edit before) × (version ≡ after.version)
Applies edit before after (Err e) = TellsRefusal (refusal_of edit before) e × (after ≡ before)
