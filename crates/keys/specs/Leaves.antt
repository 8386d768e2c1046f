-- Which keys are leaves, and the value of a leaf.
use Rattle.std.specs.Prelude.{Option, Some, None, Bool, true, false}
use Rattle.std.specs.FinMap as map
use Rattle.std.specs.Option.{option_map}
use Rattle.filetree.specs.Files.{Files}
use Rattle.filetree.specs.Listings.{Names, listing}
use Rattle.keys.specs.Directories.{DirectoryView}
use Rattle.keys.specs.declared.key.Key.{Key}
use Rattle.keys.specs.declared.key.Key.TheVariants as key
use Rattle.keys.specs.declared.value.Value.{Value}
use Rattle.keys.specs.declared.value.Value.TheVariants as value

abbrev pub is_leaf : Key → Bool
is_leaf (key.File path) = true
is_leaf (key.Listing directory) = true
is_leaf (key.Lookup directory) = false
is_leaf (key.Glob directory pattern directories) = false
is_leaf (key.Module label) = false
is_leaf (key.Package name) = false
is_leaf (key.Under directory) = false

-- the names in a directory, as a value has them
abbrev pub listed_of : Names → DirectoryView
listed_of names = record { files = names.files; directories = names.directories }

-- the value of a leaf in the files, and None if the key is not a leaf
abbrev pub read : Files → Key → Option Value
read files (key.File path) = Some (value.File (map.get files path))
read files (key.Listing directory) = Some (value.Listing (option_map listed_of (listing files directory)))
read files (key.Lookup directory) = None
read files (key.Glob directory pattern directories) = None
read files (key.Module label) = None
read files (key.Package name) = None
read files (key.Under directory) = None
