-- What an edit did.
use Rattle.filetree.specs.declared.refusals.TheConstants.{BAD_PATH, IN_THE_WAY, NO_FILE, TEXT_TOO_LONG}
use Rattle.std.specs.Prelude.{◌≡◌, ℕ, Option, Some, None, Result, Ok, Err}
use Rattle.filetree.specs.Files.{Files}
use Rattle.filetree.specs.declared.error.TreeError.{TreeError}
use Rattle.filetree.specs.declared.error.TreeError.TheVariants.{Code2, Code3, Code4, Code7, Memory}

-- the refusal that an error names; an allocation fails only where there is none
abbrev pub refusal_of : TreeError → Option ℕ
refusal_of Code2 = Some BAD_PATH
refusal_of Code3 = Some IN_THE_WAY
refusal_of Code4 = Some NO_FILE
refusal_of Code7 = Some TEXT_TOO_LONG
refusal_of (Memory _) = None

-- the change is made, or the refusal is returned and nothing changes
abbrev pub Edits : {A : Type 0} → Result A TreeError → Option ℕ → Files → Files → Files → Type 0
Edits (Ok _) refusal before change after = (refusal ≡ None) × (after ≡ change)
Edits (Err e) refusal before change after = (refusal ≡ refusal_of e) × (after ≡ before)

-- the refusal is returned, if there is one
abbrev pub Tells : {A : Type 0} → Result A TreeError → Option ℕ → Type 0
Tells (Ok _) refusal = refusal ≡ None
Tells (Err e) refusal = refusal ≡ refusal_of e
