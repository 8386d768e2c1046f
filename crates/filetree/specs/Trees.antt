-- Files that form a tree, and that edits make no others.
use Rattle.std.specs.Prelude.{◌≡◌, ◌≤◌, ℕ, List, length, true, false, Some, None}
use Rattle.std.specs.FinMap as map
use Rattle.labels.specs.Paths.{is_path}
use Rattle.filetree.specs.Files.{Files, is_ancestor, is_file, text_limit}
use Rattle.filetree.specs.Changes.{Change, changes_refusal, all_changed}

-- files that form a tree: each has a path, none lies below another one, and their texts are not too long
pub record AreATree (files : Files) : Type 0 where
  pub paths : (path : List ℕ) → is_file files path ≡ true → is_path path ≡ true
  pub apart : (path other : List ℕ) → is_file files path ≡ true → is_file files other ≡ true → is_ancestor path other ≡ false
  pub texts : (path text : List ℕ) → map.get files path ≡ Some text → length text ≤ text_limit

-- no files form a tree, and so do the files after each list of changes that is not refused
abbrev pub EditsMakeTrees : Type 0
EditsMakeTrees = AreATree map.empty × ((files : Files) (changes : List Change) → AreATree files → changes_refusal changes files ≡ None → AreATree (all_changed changes files))
