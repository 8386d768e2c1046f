-- The names in a directory.
use Rattle.std.specs.Prelude.{ℕ, ◌+◌, List, [], ◌∷◌, length, drop, not, ◌==◌, is_some, Option, Some, None, map as each, if◌then◌else◌}
use Rattle.std.specs.List.{list_any, filter, filter_map, before_first}
use Rattle.std.specs.Ordering.{nat_cmp}
use Rattle.std.specs.Cmp.Lexicographic.{slice_cmp}
use Rattle.std.specs.FinMap as map
use Rattle.filetree.specs.Files.{Files, is_ancestor}
use Rattle.filetree.specs.Folders.{has_no_slash}

-- the names of the files and of the subdirectories
pub record Names : Type 0 where
  pub files : List (List ℕ)
  pub directories : List (List ℕ)

-- a name as a key of a map that has nothing else
abbrev pub alone : List ℕ → List ℕ × ℕ
alone name = (name, 0)

-- names in byte order, without repeats
abbrev pub sorted_names : List (List ℕ) → List (List ℕ)
sorted_names names = map.keys (map.from_entries {R = slice_cmp nat_cmp} (each alone names))

-- the rest of a path below a directory; the root's name is empty
abbrev pub rest_below : List ℕ → List ℕ → Option (List ℕ)
rest_below [] path = Some path
rest_below (b ∷ directory) path = if is_ancestor (b ∷ directory) path then Some (drop (length (b ∷ directory) + 1) path) else None

-- what is before the first slash
abbrev pub first_name : List ℕ → List ℕ
first_name path = before_first (λ b. b == 47) path

-- The names in a directory, of all paths: a file in it has the directory's path and a name, and a file further below
-- has a subdirectory's name, a slash and more after it. A directory exists if a file lies below it.
abbrev pub names_in : List ℕ → List (List ℕ) → Option Names
names_in directory paths =
    if list_any (λ path. is_some (rest_below directory path)) paths
    then Some (record {
      files = sorted_names (filter has_no_slash (filter_map (rest_below directory) paths));
      directories = sorted_names (each first_name (filter (λ rest. not (has_no_slash rest)) (filter_map (rest_below directory) paths)));
    })
    else None

-- the names in a directory of the files
abbrev pub listing : Files → List ℕ → Option Names
listing files directory = names_in directory (map.keys files)
