-- The value of the node at the files.
use Rattle.std.specs.Prelude.{◌≡◌, ℕ, List, true}
use Rattle.std.specs.List.{list_all}
use Rattle.engine_semantics.specs.Reply.{Reply}
use Rattle.engine_semantics.specs.Value.{Grounded}
use Rattle.labels.specs.Paths.{is_package_name}
use Rattle.filetree.specs.Files.{Files}
use Rattle.filetree.specs.Lawful.{HasPaths}
use Rattle.keys.specs.declared.key.Key.{Key}
use Rattle.keys.specs.declared.key.Key.TheVariants as key
use Rattle.keys.specs.declared.value.Value.{Value}
use Rattle.keys.specs.declared.value.Value.TheVariants as value
use Rattle.keys.specs.Leaves.{read}
use Rattle.functions_directories.specs.Lookups.{build_of}
use Rattle.functions_directories.specs.Below.{packages_below}
use Rattle.functions_directories.specs.Turns as turns

-- the table of turns has these turns for the packages at and below a directory
abbrev pub HasTurns : (Key → List Value → Reply Key Value) → Type 0
HasTurns next = (directory : List ℕ) (answers : List Value) → next (key.Under directory) answers ≡ turns.next directory answers

-- by this table the value of a look-up is which build file a directory has
abbrev pub LooksUp : (Key → List Value → Reply Key Value) → Files → Type 0
LooksUp next files = (directory : List ℕ) → Grounded next (read files) (key.Lookup directory) (value.Lookup (build_of files directory))

-- by each such table the value of the node is the names of all packages at and below its directory
abbrev pub HoldsPackages : Type 0
HoldsPackages = (next : Key → List Value → Reply Key Value) (files : Files) → HasTurns next → LooksUp next files → HasPaths files
    → (directory : List ℕ) → Grounded next (read files) (key.Under directory) (value.Paths (packages_below files directory))

-- if files have paths, these are names of packages, whatever the directory
abbrev pub HavePackageNames : Type 0
HavePackageNames = (files : Files) → HasPaths files → (directory : List ℕ) → list_all is_package_name (packages_below files directory) ≡ true
