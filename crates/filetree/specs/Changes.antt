-- Changes of files, one after the other.
use Rattle.std.specs.Prelude.{◌≡◌, ℕ, suc, List, [], ◌∷◌, Option, Some, None, Result, Ok, Err}
use Rattle.std.specs.FinMap as map
use Rattle.filetree.specs.Files.{Files, put_refusal, del_refusal}
use Rattle.filetree.specs.declared.error.BatchError.{BatchError}
use Rattle.filetree.specs.declared.error.BatchError.TheVariants.{At, Memory}
use Rattle.base_types.specs.Refusals.{memory}

-- a text is put at a path, or the file at a path is removed
pub data Change : Type 0 where
  put : List ℕ → List ℕ → Change
  del : List ℕ → Change

-- the path of the file that is changed
abbrev pub path_of : Change → List ℕ
path_of (put path text) = path
path_of (del path) = path

-- the first refusal of a change
abbrev pub change_refusal : Change → Files → Option ℕ
change_refusal (put path text) files = put_refusal files path text
change_refusal (del path) files = del_refusal files path

abbrev pub files_after_change : Change → Files → Files
files_after_change (put path text) files = map.insert files path text
files_after_change (del path) files = map.remove files path

-- the files after these changes, in their order
abbrev pub all_changed : List Change → Files → Files
all_changed [] files = files
all_changed (c ∷ cs) files = all_changed cs (files_after_change c files)

-- the refusal of the change with this number, or else another one
abbrev pub refused_or : ℕ → Option ℕ → Option (ℕ × ℕ) → Option (ℕ × ℕ)
refused_or at (Some n) other = Some (at, n)
refused_or at None other = other

-- the first change that is refused on the files after those before it, counted from this number on, and its refusal
abbrev pub first_refused : ℕ → List Change → Files → Option (ℕ × ℕ)
first_refused at [] files = None
first_refused at (c ∷ cs) files = refused_or at (change_refusal c files) (first_refused (suc at) cs (files_after_change c files))

-- the first change that is refused, counted from 0, and its refusal
abbrev pub changes_refusal : List Change → Files → Option (ℕ × ℕ)
changes_refusal cs files = first_refused 0 cs files

-- the error of a refusal at a change; without a refusal it is a failed allocation
abbrev pub error_at : ℕ → Option ℕ → BatchError
error_at at (Some n) = At at n
error_at at None = (Memory memory)

-- all changes are made; or the first that is refused is returned and nothing changes, as if an allocation fails
abbrev pub EditsAll : {A : Type 0} → Result A BatchError → Option (ℕ × ℕ) → Files → Files → Files → Type 0
EditsAll (Ok _) refusal before change after = (refusal ≡ None) × (after ≡ change)
EditsAll (Err (At i n)) refusal before change after = (refusal ≡ Some (i, n)) × (after ≡ before)
EditsAll (Err (Memory _)) refusal before change after = after ≡ before

-- the same, where nothing is said of the files after an error
abbrev pub MakesAll : {A : Type 0} → Result A BatchError → Option (ℕ × ℕ) → Files → Files → Type 0
MakesAll (Ok _) refusal change after = (refusal ≡ None) × (after ≡ change)
MakesAll (Err (At i n)) refusal change after = refusal ≡ Some (i, n)
MakesAll (Err (Memory _)) refusal change after = Unit {0}
