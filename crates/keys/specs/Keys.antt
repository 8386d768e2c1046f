-- The order of keys, what distinguishes them, and how they are written.
use Rattle.std.specs.Prelude.{ℕ, List, [], ◌∷◌, ◌++◌, Bool, ◌==◌, ◌<◌, codes, if◌then◌else◌}
use Rattle.std.specs.Hash as fed
use Rattle.std.specs.declared.cmp.Ordering.{Ordering}
use Rattle.std.specs.List.{AllByRecursion}
use Rattle.std.specs.Ordering.{nat_cmp, on, then_cmp, eq_of_both}
use Rattle.std.specs.Cmp.Lexicographic.{slice_cmp, pointwise}
use Rattle.keys.specs.declared.key.Key.{Key}
use Rattle.keys.specs.declared.key.Key.TheVariants.{File, Listing, Lookup, Glob, Module, Package, Under}

-- the place of its kind in the order
abbrev pub kind : Key → ℕ
kind (File path) = 0
kind (Listing directory) = 1
kind (Lookup name) = 2
kind (Glob directory pattern directories) = 3
kind (Module label) = 4
kind (Package name) = 5
kind (Under directory) = 6

-- the path, or the name of the directory or the package, or the label of a module
abbrev pub name_of : Key → List ℕ
name_of (File path) = path
name_of (Listing directory) = directory
name_of (Lookup name) = name
name_of (Glob directory pattern directories) = directory
name_of (Module label) = label
name_of (Package name) = name
name_of (Under directory) = directory

-- the pattern of a glob, and the empty text for other keys
abbrev pub pattern_of : Key → List ℕ
pattern_of (File path) = []
pattern_of (Listing directory) = []
pattern_of (Lookup name) = []
pattern_of (Glob directory pattern directories) = pattern
pattern_of (Module label) = []
pattern_of (Package name) = []
pattern_of (Under directory) = []

-- 1 for a glob that finds directories too, and 0 otherwise
abbrev pub scope : Key → ℕ
scope (File path) = 0
scope (Listing directory) = 0
scope (Lookup name) = 0
scope (Glob directory pattern directories) = if directories then 1 else 0
scope (Module label) = 0
scope (Package name) = 0
scope (Under directory) = 0

-- the kind's word, and what is before the name
abbrev pub prefix : Key → List ℕ
prefix (File path) = codes "file "
prefix (Listing directory) = codes "listing //"
prefix (Lookup name) = codes "lookup //"
prefix (Glob directory pattern directories) = codes "glob //"
prefix (Module label) = codes "module "
prefix (Package name) = codes "package //"
prefix (Under directory) = codes "under //"

-- what is after the kind's word: for a glob the directory, a space and the pattern, and with directories ` dirs`
abbrev pub key_name : Key → List ℕ
key_name (File path) = path
key_name (Listing directory) = directory
key_name (Lookup name) = name
key_name (Glob directory pattern directories) = directory ++ 32 ∷ (pattern ++ (if directories then codes " dirs" else []))
key_name (Module label) = label
key_name (Package name) = name
key_name (Under directory) = directory

-- the key as it is written
abbrev pub key_text : Key → List ℕ
key_text key = prefix key ++ key_name key

-- keys are ordered by kind, then by the bytes of the name, of the pattern, and globs of files alone first
abbrev pub key_cmp : Key → Key → Ordering
key_cmp = then_cmp (on kind nat_cmp) (then_cmp (on name_of (slice_cmp nat_cmp)) (then_cmp (on pattern_of (slice_cmp nat_cmp)) (on scope nat_cmp)))

-- of one kind, with one name, one pattern and one scope
abbrev pub key_eq : Key → Key → Bool
key_eq = eq_of_both (on kind ◌==◌) (eq_of_both (on name_of (pointwise ◌==◌)) (eq_of_both (on pattern_of (pointwise ◌==◌)) (on scope ◌==◌)))

-- what the hash of a key is made of: its kind and its name, and for a glob its pattern and its scope too
abbrev pub key_fed : Key → fed.HashWrites
key_fed key = fed.u8 (kind key) ++ name_of key ∷ (if kind key == 3 then pattern_of key ∷ fed.u8 (scope key) else [])

-- a text in which no byte is a space or below it, as all paths, directory names and patterns are
abbrev pub HasNoSpace : List ℕ → Type 0
HasNoSpace = AllByRecursion (λ b. 32 < b)

-- the directory and the pattern of a glob have no space
abbrev pub IsReadable : Key → Type 0
IsReadable (File path) = Unit {0}
IsReadable (Listing directory) = Unit {0}
IsReadable (Lookup name) = Unit {0}
IsReadable (Glob directory pattern directories) = HasNoSpace directory × HasNoSpace pattern
IsReadable (Module label) = Unit {0}
IsReadable (Package name) = Unit {0}
IsReadable (Under directory) = Unit {0}
