-- The result of a glob, by all paths of the files, and a step of the walk that finds it.
use Rattle.std.specs.Prelude.{◌≡◌, ℕ, List, [], ◌∷◌, ◌++◌, length, Bool, true, false, ◌&&◌, ◌||◌, ◌==◌, not, nat_lt, codes, Some, None, MatchOption, map as each, flat_map, if◌then◌else◌}
use Rattle.std.specs.List.{list_any, list_all, filter, filter_map, before_first, position_or_len}
use Rattle.std.specs.FinMap as map
use Rattle.labels.specs.Paths.{is_path, segments}
use Rattle.labels.specs.Labels.{ancestors}
use Rattle.filetree.specs.Files.{Files, is_file}
use Rattle.filetree.specs.Listings.{Names, sorted_names, rest_below, names_in}
use Rattle.pattern.specs.Patterns.{is_double_star, segment_matches, path_matches, is_pattern}

-- a path in a directory; the root's name is empty
abbrev pub path_in : List ℕ → List ℕ → List ℕ
path_in [] name = name
path_in (b ∷ directory) name = (b ∷ directory) ++ 47 ∷ name

-- a directory with one of the two build files
abbrev pub is_package : Files → List ℕ → Bool
is_package files directory = is_file files (path_in directory (codes "BUILD.bazel")) || is_file files (path_in directory (codes "BUILD"))

-- no proper directory of the rest of a path is a package; `packages` tells which directories are
abbrev pub is_open : (List ℕ → Bool) → List ℕ → List ℕ → Bool
is_open packages directory rest = not (list_any (λ d. packages (path_in directory d)) (ancestors rest))

-- The paths that a glob searches: those of all files, and, if directories are asked for too, the directories on the way
-- to them that are not packages.
abbrev pub sought : Bool → (List ℕ → Bool) → List (List ℕ) → List (List ℕ)
sought false packages paths = paths
sought true packages paths = paths ++ filter (λ d. not (packages d)) (flat_map ancestors paths)

-- What a pattern finds below a directory: the rests of the paths that lead there which the pattern matches and which no
-- package precedes, in byte order, without repeats.
abbrev pub found_below : (List ℕ → Bool) → List (List ℕ) → List ℕ → List (List ℕ) → List (List ℕ)
found_below packages paths directory pattern =
    sorted_names (filter (λ rest. path_matches pattern (segments rest) && is_open packages directory rest) (filter_map (rest_below directory) paths))

-- some pattern matches the rest of a path
abbrev pub some_matches : List (List (List ℕ)) → List ℕ → Bool
some_matches patterns rest = list_any (λ pattern. path_matches pattern (segments rest)) patterns

-- The result of a glob below a directory: of the rests of all paths that lead there, those which some included pattern
-- matches and no excluded one, and which no package precedes.
abbrev pub glob_below : (List ℕ → Bool) → List (List ℕ) → List ℕ → List (List (List ℕ)) → List (List (List ℕ)) → List (List ℕ)
glob_below packages paths directory includes excludes =
    sorted_names (filter (λ rest. some_matches includes rest && not (some_matches excludes rest) && is_open packages directory rest) (filter_map (rest_below directory) paths))

abbrev pub is_space : ℕ → Bool
is_space b = b == 32

abbrev pub question : Bool → List ℕ → List ℕ
question false pattern = pattern
question true pattern = pattern ++ codes " dirs"

-- the pattern, which has no space, and whether directories are asked for too
abbrev pub pattern_in : List ℕ → List ℕ
pattern_in asked = before_first is_space asked

abbrev pub asks_directories : List ℕ → Bool
asks_directories asked = nat_lt (position_or_len is_space asked) (length asked)

-- what a question finds
abbrev pub answer_below : (List ℕ → Bool) → List (List ℕ) → List ℕ → List ℕ → List (List ℕ)
answer_below packages paths directory asked = found_below packages (sought (asks_directories asked) packages paths) directory (segments (pattern_in asked))

abbrev pub is_last : List (List ℕ) → Bool
is_last [] = true
is_last (segment ∷ rest) = false

-- the files that a step finds by a first segment and the rest of the pattern
abbrev pub step_files : (List ℕ → List (List ℕ) → List (List ℕ)) → List ℕ → Names → List ℕ → List (List ℕ) → List (List ℕ)
step_files below directory names segment rest =
    if is_double_star segment
    then (if is_last rest then names.files else below directory rest)
    else filter (λ name. segment_matches segment name && path_matches rest []) names.files

-- whether a step descends into a subdirectory that is not a package
abbrev pub goes_into : List ℕ → List (List ℕ) → List ℕ → Bool
goes_into segment rest name = is_double_star segment || segment_matches segment name && not (is_last rest)

-- One step of the walk. `below` tells what a pattern finds below a directory.
abbrev pub walk_step : (List ℕ → Bool) → (List ℕ → List (List ℕ) → List (List ℕ)) → List ℕ → Names → List ℕ → List (List ℕ) → List (List ℕ)
walk_step packages below directory names segment rest =
    sorted_names (step_files below directory names segment rest
    ++ flat_map (λ name. each (λ path. name ++ 47 ∷ path) (below (path_in directory name) (if is_double_star segment then segment ∷ rest else rest)))
    (filter (λ name. goes_into segment rest name && not (packages (path_in directory name))) names.directories))

-- what a pattern finds is what one step of the walk gives, and nothing below a directory that does not exist
abbrev pub IsFoundByWalk : Type 0
IsFoundByWalk = (packages : List ℕ → Bool) (paths : List (List ℕ)) (directory segment : List ℕ) (rest : List (List ℕ)) → list_all is_path paths ≡ true
    → MatchOption (names_in directory paths) (found_below packages paths directory (segment ∷ rest) ≡ [])
    (λ names. found_below packages paths directory (segment ∷ rest) ≡ walk_step packages (found_below packages paths) directory names segment rest)

-- With directories, a directory has the names that it had, and its subdirectories that are not packages as files. If no
-- file lies below it, it has no subdirectories either.
abbrev pub IsHeldWithDirectories : Type 0
IsHeldWithDirectories = (packages : List ℕ → Bool) (paths : List (List ℕ)) (directory : List ℕ) → list_all is_path paths ≡ true
    → (list_all is_path (sought true packages paths) ≡ true)
    × MatchOption (names_in directory paths) (names_in directory (sought true packages paths) ≡ None)
    (λ names. names_in directory (sought true packages paths)
    ≡ Some (record { files = sorted_names (names.files ++ filter (λ name. not (packages (path_in directory name))) names.directories); directories = names.directories }))

-- a question has the pattern that it asks for
abbrev pub HasItsPattern : Type 0
HasItsPattern = (directories : Bool) (pattern : List ℕ) → is_pattern pattern ≡ true
    → (pattern_in (question directories pattern) ≡ pattern) × (asks_directories (question directories pattern) ≡ directories)

-- the result of a glob is what its included patterns find, without what an excluded one matches
abbrev pub IsFoundByPatterns : Type 0
IsFoundByPatterns = (packages : List ℕ → Bool) (paths : List (List ℕ)) (directory : List ℕ) (includes excludes : List (List (List ℕ)))
    → glob_below packages paths directory includes excludes
    ≡ sorted_names (filter (λ rest. not (some_matches excludes rest)) (flat_map (found_below packages paths directory) includes))
