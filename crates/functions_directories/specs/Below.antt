-- The names of all packages at and below a directory.
use Rattle.std.specs.Prelude.{ℕ, List, ◌∷◌, filter, flat_map, map as each}
use Rattle.std.specs.List.{filter_map}
use Rattle.std.specs.FinMap as map
use Rattle.labels.specs.Labels.{ancestors}
use Rattle.filetree.specs.Files.{Files}
use Rattle.filetree.specs.Listings.{sorted_names, rest_below}
use Rattle.pattern.specs.Globs.{path_in, is_package}

-- the directories below a directory that lead to files
abbrev pub directories_below : Files → List ℕ → List (List ℕ)
directories_below files directory = each (path_in directory) (flat_map ancestors (filter_map (rest_below directory) (map.keys files)))

-- of the directory itself and these, those with a build file, in byte order
abbrev pub packages_below : Files → List ℕ → List (List ℕ)
packages_below files directory = sorted_names (filter (is_package files) (directory ∷ directories_below files directory))
