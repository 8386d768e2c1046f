-- Files whose names are paths.
use Rattle.std.specs.Prelude.{◌≡◌, ℕ, List, true, None}
use Rattle.std.specs.List.{list_all}
use Rattle.std.specs.FinMap as map
use Rattle.labels.specs.Paths.{is_path}
use Rattle.filetree.specs.Files.{Files, put_refusal}
use Rattle.filetree.specs.Changes.{Change, changes_refusal, all_changed}

-- each file has a path
abbrev pub HasPaths : Files → Type 0
HasPaths files = list_all is_path (map.keys files) ≡ true

-- no files have paths alone, and an edit that is not refused keeps it so, and so do several
abbrev pub EditsKeepPaths : Type 0
EditsKeepPaths = HasPaths map.empty
    × ((files : Files) (path text : List ℕ) → HasPaths files → put_refusal files path text ≡ None → HasPaths (map.insert files path text))
    × ((files : Files) (path : List ℕ) → HasPaths files → HasPaths (map.remove files path))
    × ((files : Files) (changes : List Change) → HasPaths files → changes_refusal changes files ≡ None → HasPaths (all_changed changes files))
