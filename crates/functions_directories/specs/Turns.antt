-- What the node of the packages at and below a directory asks for, and what it ends with.
use Rattle.std.specs.Prelude.{ℕ, List, [], ◌∷◌, ◌++◌, length, map, flat_map, nat_lt, if◌then◌else◌}
use Rattle.engine_semantics.specs.Reply.{Reply, Ask, Done}
use Rattle.filetree.specs.Listings.{sorted_names}
use Rattle.pattern.specs.Globs.{path_in}
use Rattle.keys.specs.declared.key.Key.{Key}
use Rattle.keys.specs.declared.key.Key.TheVariants as key
use Rattle.keys.specs.declared.value.Value.{Value}
use Rattle.keys.specs.declared.value.Value.TheVariants as value
use Rattle.functions_directories.specs.Globs.{directories_in, has_build, paths_of}

-- whether the directory is a package, and which subdirectories it has
abbrev pub first_group : List ℕ → List Key
first_group directory = key.Lookup directory ∷ key.Listing directory ∷ []

-- the subdirectories of a listing, in byte order
abbrev pub subdirectories : Value → List (List ℕ)
subdirectories listing = sorted_names (directories_in listing)

-- the packages at and below each of these subdirectories
abbrev pub keys_below : List ℕ → List (List ℕ) → List Key
keys_below directory names = map (λ name. key.Under (path_in directory name)) names

-- the directory itself, if its look-up found a build file
abbrev pub own_name : List ℕ → Value → List (List ℕ)
own_name directory lookup = if has_build lookup then directory ∷ [] else []

-- the names in the answers
abbrev pub names_in : List Value → List (List ℕ)
names_in answers = flat_map paths_of answers

-- what comes after the first group, from these subdirectories on; an empty group is not asked for
abbrev pub after_listing : List ℕ → Value → List (List ℕ) → List Value → Reply Key Value
after_listing directory lookup names answers =
    if nat_lt (length answers) (length names) then Ask (keys_below directory names)
    else Done (value.Paths (sorted_names (own_name directory lookup ++ names_in answers)))

-- the look-up and the listing of the directory, then the packages at and below each subdirectory
abbrev pub next : List ℕ → List Value → Reply Key Value
next directory [] = Ask (first_group directory)
next directory (lookup ∷ []) = Ask (first_group directory)
next directory (lookup ∷ listing ∷ answers) = after_listing directory lookup (subdirectories listing) answers
