-- The values of look-ups and globs at the files, for any node functions whose look-ups and globs are those of this
-- crate.
use Rattle.std.specs.Prelude.{◌≡◌, ℕ, List, Bool, true}
use Rattle.std.specs.FinMap as map
use Rattle.engine_semantics.specs.Reply.{Reply}
use Rattle.engine_semantics.specs.Value.{Grounded}
use Rattle.labels.specs.Paths.{is_package_name}
use Rattle.filetree.specs.Files.{Files}
use Rattle.filetree.specs.Lawful.{HasPaths}
use Rattle.pattern.specs.Globs.{is_package, answer_below}
use Rattle.keys.specs.declared.key.Key.{Key}
use Rattle.keys.specs.declared.key.Key.TheVariants as key
use Rattle.keys.specs.declared.value.Value.{Value}
use Rattle.keys.specs.declared.value.Value.TheVariants as value
use Rattle.keys.specs.Leaves.{read}
use Rattle.functions_directories.specs.Globs as glob
use Rattle.functions_directories.specs.Lookups as lookup

abbrev pub Table : Type 0
Table = Key → List Value → Reply Key Value

-- the look-ups and the globs are those of this crate
abbrev pub HasLookups : Table → Type 0
HasLookups next = (directory : List ℕ) (answers : List Value) → next (key.Lookup directory) answers ≡ lookup.next directory answers

abbrev pub HasGlobs : Table → Type 0
HasGlobs next = (directory pattern : List ℕ) (directories : Bool) (answers : List Value) → next (key.Glob directory pattern directories) answers ≡ glob.step directory directories pattern answers

-- the key has this value at the files, and no other
abbrev pub Holds : Table → Files → Key → Value → Type 0
Holds next files k v = Grounded next (read files) k v × ((w : Value) → Grounded next (read files) k w → w ≡ v)

-- the value of a look-up is which BUILD file the directory has
abbrev pub LookupsHold : Type 0
LookupsHold = (next : Table) → HasLookups next → (files : Files) (directory : List ℕ) → Holds next files (key.Lookup directory) (value.Lookup (lookup.build_of files directory))

-- The value of a glob is what its question finds: among all paths that lead below the directory and into no package on
-- the way, and with directories among those of the directories too that are not packages.
abbrev pub GlobsHold : Type 0
GlobsHold = (next : Table) → HasLookups next → HasGlobs next → (files : Files) (directory asked : List ℕ) → HasPaths files → is_package_name directory ≡ true
    → Holds next files (glob.glob_key directory asked) (value.Paths (answer_below (is_package files) (map.keys files) directory asked))
