-- Files that are taken away from folders.
use Rattle.std.specs.Prelude.{◌≡◌, ℕ, List, length, Bool, true, ◌==◌, not, None, option_and_then, bytes_eq, if◌then◌else◌}
use Rattle.std.specs.Map.{lookup, remove_entry}
use Rattle.filetree.specs.NameMaps.{is_ascending}
use Rattle.filetree.specs.Folders.{Below, text_at}

-- whether files lie below a folder
abbrev pub has_files : Below → Bool
has_files folder = not (length folder.entries == 0)

-- the files have none at one path, and at the others what they had
abbrev pub LosesFile : List ℕ → Below → Below → Type 0
LosesFile rest old new = (r : List ℕ) → text_at new.entries r ≡ (if bytes_eq rest r then None else text_at old.entries r)

-- the same, and some are left
abbrev pub LosesOneFile : List ℕ → Below → Below → Type 0
LosesOneFile rest old new = (has_files new ≡ true) × LosesFile rest old new

-- the folder at a name is not there, or has a file at one path at most; no other folder differs
pub record LosesFolder (name rest : List ℕ) (old new : List (List ℕ × Below)) : Type 0 where
  pub order : is_ascending new ≡ true
  pub others : remove_entry (bytes_eq name) new ≡ remove_entry (bytes_eq name) old
  pub alone : (r : List ℕ) → None ≡ (if bytes_eq rest r then None else option_and_then (λ b. text_at b.entries r) (lookup (bytes_eq name) old))
