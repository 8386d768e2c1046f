-- The values of the nodes of names and patterns at the files.
use Rattle.std.specs.Prelude.{◌≡◌, ℕ, List, true}
use Rattle.std.specs.FinMap as map
use Rattle.std.specs.Option.{option_map}
use Rattle.engine_semantics.specs.Value.{Grounded}
use Rattle.labels.specs.Paths.{is_package_name}
use Rattle.filetree.specs.Files.{Files}
use Rattle.filetree.specs.Lawful.{HasPaths}
use Rattle.filetree.specs.Listings.{listing}
use Rattle.pattern.specs.Globs.{is_package, answer_below}
use Rattle.functions_directories.specs.Globs.{glob_key}
use Rattle.keys.specs.declared.key.Key.{Key}
use Rattle.keys.specs.declared.key.Key.TheVariants as key
use Rattle.keys.specs.declared.value.Value.{Value}
use Rattle.keys.specs.declared.value.Value.TheVariants as value
use Rattle.functions_directories.specs.Lookups.{build_of}
use Rattle.functions_directories.specs.Below.{packages_below}
use Rattle.functions.specs.Next.{next}
use Rattle.keys.specs.Leaves.{read, listed_of}

-- the key has this value at the files, and no other
abbrev pub Holds : Files → Key → Value → Type 0
Holds files k v = Grounded next (read files) k v × ((w : Value) → Grounded next (read files) k w → w ≡ v)

-- the value of a leaf is what is read, and that of a look-up is which BUILD file the directory has
abbrev pub NamesHold : Type 0
NamesHold = (files : Files) (name : List ℕ)
    → Holds files (key.File name) (value.File (map.get files name))
    × Holds files (key.Listing name) (value.Listing (option_map listed_of (listing files name)))
    × Holds files (key.Lookup name) (value.Lookup (build_of files name))

-- The value of a glob is what its question finds: among all paths that lead below the directory and into no package on
-- the way, and with directories among those of the directories too that are not packages.
abbrev pub GlobsHold : Type 0
GlobsHold = (files : Files) (directory asked : List ℕ) → HasPaths files → is_package_name directory ≡ true
    → Holds files (glob_key directory asked) (value.Paths (answer_below (is_package files) (map.keys files) directory asked))

-- the names of the packages at and below a directory
abbrev pub PackagesHold : Type 0
PackagesHold = (files : Files) (directory : List ℕ) → HasPaths files → Holds files (key.Under directory) (value.Paths (packages_below files directory))
