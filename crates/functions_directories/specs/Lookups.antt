-- The look-up of a package's BUILD file.
use Rattle.std.specs.Prelude.{ℕ, List, [], ◌∷◌, ◌++◌, length, map, filter, nat_le, Bool, true, false, ◌&&◌, if◌then◌else◌, Option, Some, None, codes}
use Rattle.engine_semantics.specs.Reply.{Reply, Ask, Done}
use Rattle.filetree.specs.Files.{Files, is_file}
use Rattle.keys.specs.declared.key.Key.{Key}
use Rattle.keys.specs.declared.key.Key.TheVariants as key
use Rattle.keys.specs.declared.value.BuildName.{BuildName}
use Rattle.keys.specs.declared.value.BuildName.TheVariants.{BuildBazel, Build}
use Rattle.keys.specs.declared.value.Value.{Value}
use Rattle.keys.specs.declared.value.Value.TheVariants as value

abbrev pub file_name : BuildName → List ℕ
file_name BuildBazel = codes "BUILD.bazel"
file_name Build = codes "BUILD"

-- where the file of a package is; the root's directory is the empty text
abbrev pub build_path : List ℕ → BuildName → List ℕ
build_path [] name = file_name name
build_path (b ∷ directory) name = (b ∷ directory) ++ codes "/" ++ file_name name

-- a path has at most 255 bytes
abbrev pub is_short : List ℕ → BuildName → Bool
is_short directory name = nat_le (length (build_path directory name)) 255

-- the files that are asked for, the one that wins first
abbrev pub candidates : List ℕ → List BuildName
candidates directory = filter (is_short directory) (BuildBazel ∷ Build ∷ [])

abbrev pub lookup_group : List ℕ → List Key
lookup_group directory = map (λ name. key.File (build_path directory name)) (candidates directory)

-- the answer is a file that exists
abbrev pub is_there : Value → Bool
is_there (value.File None) = false
is_there (value.File (Some text)) = true
is_there (value.Listing names) = false
is_there (value.Lookup name) = false
is_there (value.Paths paths) = false
is_there (value.Module loaded) = false
is_there (value.Package targets) = false
is_there (value.Fault fault) = false
is_there (value.Cycle names) = false

-- the first of the names whose answer is a file
abbrev pub first_there : List BuildName → List Value → Option BuildName
first_there [] answers = None
first_there (name ∷ names) [] = None
first_there (name ∷ names) (answer ∷ answers) = (if is_there answer then Some name else first_there names answers)

-- an empty group is not asked for
abbrev pub asks_first : List Key → Reply Key Value
asks_first [] = Done (value.Lookup None)
asks_first (k ∷ group) = Ask (k ∷ group)

-- a look-up asks for its group, and ends with the first file that exists
abbrev pub next : List ℕ → List Value → Reply Key Value
next directory [] = asks_first (lookup_group directory)
next directory (answer ∷ answers) = Done (value.Lookup (first_there (candidates directory) (answer ∷ answers)))

-- the package has the file, at a path that is short enough
abbrev pub has_file : Files → List ℕ → BuildName → Bool
has_file files directory name = is_short directory name && is_file files (build_path directory name)

-- the package's BUILD file: BUILD.bazel if it exists, else BUILD if that exists, else none
abbrev pub build_of : Files → List ℕ → Option BuildName
build_of files directory = (if has_file files directory BuildBazel then Some BuildBazel else if has_file files directory Build then Some Build else None)
