-- What a glob asks for, and what it finds.
use Rattle.std.specs.Prelude.{ℕ, List, [], ◌∷◌, ◌++◌, drop, length, map, filter, is_some, nat_lt, Bool, true, false, ◌&&◌, ◌||◌, if◌then◌else◌, Option, Some, None}
use Rattle.std.specs.List.{list_all, position_or_len, before_first, after_first}
use Rattle.engine_semantics.specs.Reply.{Reply, Ask, Done}
use Rattle.labels.specs.Labels.{is_slash}
use Rattle.labels.specs.Paths.{segments}
use Rattle.filetree.specs.Listings.{sorted_names}
use Rattle.pattern.specs.Patterns.{is_double_star, segment_matches}
use Rattle.pattern.specs.Globs.{path_in, pattern_in, asks_directories}
use Rattle.keys.specs.declared.key.Key.{Key}
use Rattle.keys.specs.declared.key.Key.TheVariants as key
use Rattle.keys.specs.declared.value.Value.{Value}
use Rattle.keys.specs.declared.value.Value.TheVariants as value

-- ---- the key

-- the key by which a question is asked below a directory: its pattern, and whether directories are asked for
abbrev pub glob_key : List ℕ → List ℕ → Key
glob_key directory asked = key.Glob directory (pattern_in asked) (asks_directories asked)

-- the first segment of a pattern, and the pattern of the others, if there are others
abbrev pub first_segment : List ℕ → List ℕ
first_segment pattern = before_first is_slash pattern

abbrev pub other_segments : List ℕ → Option (List ℕ)
other_segments pattern = if nat_lt (position_or_len is_slash pattern) (length pattern) then Some (after_first is_slash pattern) else None

abbrev pub is_deep : List ℕ → Bool
is_deep pattern = is_double_star (first_segment pattern)

-- ---- what is in the answers

abbrev pub files_in : Value → List (List ℕ)
files_in (value.File text) = []
files_in (value.Listing None) = []
files_in (value.Listing (Some names)) = names.files
files_in (value.Lookup name) = []
files_in (value.Paths paths) = []
files_in (value.Module loaded) = []
files_in (value.Package targets) = []
files_in (value.Fault fault) = []
files_in (value.Cycle labels) = []

abbrev pub directories_in : Value → List (List ℕ)
directories_in (value.File text) = []
directories_in (value.Listing None) = []
directories_in (value.Listing (Some names)) = names.directories
directories_in (value.Lookup name) = []
directories_in (value.Paths paths) = []
directories_in (value.Module loaded) = []
directories_in (value.Package targets) = []
directories_in (value.Fault fault) = []
directories_in (value.Cycle labels) = []

-- a look-up found a BUILD file
abbrev pub has_build : Value → Bool
has_build (value.File text) = false
has_build (value.Listing names) = false
has_build (value.Lookup None) = false
has_build (value.Lookup (Some name)) = true
has_build (value.Paths paths) = false
has_build (value.Module loaded) = false
has_build (value.Package targets) = false
has_build (value.Fault fault) = false
has_build (value.Cycle labels) = false

abbrev pub paths_of : Value → List (List ℕ)
paths_of (value.File text) = []
paths_of (value.Listing names) = []
paths_of (value.Lookup name) = []
paths_of (value.Paths paths) = paths
paths_of (value.Module loaded) = []
paths_of (value.Package targets) = []
paths_of (value.Fault fault) = []
paths_of (value.Cycle labels) = []

-- ---- one step by the pattern

-- no segment is left but `**`, which stands for none too
abbrev pub ends_here : Option (List ℕ) → Bool
ends_here None = true
ends_here (Some rest) = list_all is_double_star (segments rest)

-- a name in the directory that the first segment matches as the last one
abbrev pub takes : List ℕ → List ℕ → Bool
takes pattern name = ends_here (other_segments pattern) && segment_matches (first_segment pattern) name

-- The names in the directory that a pattern finds. If `**` is before other segments, these segments find them.
abbrev pub own_names : List ℕ → List (List ℕ) → List (List ℕ)
own_names pattern names = if is_deep pattern then (if is_some (other_segments pattern) then [] else names) else filter (takes pattern) names

-- these of the files, and with directories of the subdirectories that are not packages
abbrev pub own_found : Bool → List ℕ → List (List ℕ) → List (List ℕ) → List (List ℕ)
own_found directories pattern files free = own_names pattern files ++ (if directories then own_names pattern free else [])

-- a subdirectory that the pattern descends into, if it is not a package
abbrev pub enters : List ℕ → List ℕ → Bool
enters pattern name = is_deep pattern || is_some (other_segments pattern) && segment_matches (first_segment pattern) name

-- the subdirectories of which it must be known whether they are packages, in byte order
abbrev pub asked_names : Bool → List ℕ → List (List ℕ) → List (List ℕ)
asked_names directories pattern names = sorted_names (filter (λ name. enters pattern name || directories && takes pattern name) names)

-- the subdirectories that the pattern descends into, of those that are not packages; without directories these are all
abbrev pub directories_to_enter : Bool → List ℕ → List (List ℕ) → List (List ℕ)
directories_to_enter directories pattern free = if directories then filter (enters pattern) free else free

abbrev pub lookups : List ℕ → List (List ℕ) → List Key
lookups directory names = map (λ name. key.Lookup (path_in directory name)) names

-- those of the subdirectories whose look-up found no BUILD file
abbrev pub open_names : List (List ℕ) → List Value → List (List ℕ)
open_names [] answers = []
open_names (name ∷ names) [] = []
open_names (name ∷ names) (answer ∷ answers) = if has_build answer then open_names names answers else name ∷ open_names names answers

abbrev pub text_or_none : Option (List ℕ) → List ℕ
text_or_none None = []
text_or_none (Some text) = text

-- what is searched for below a subdirectory: after `**` the whole pattern again
abbrev pub pattern_below : List ℕ → List ℕ
pattern_below pattern = if is_deep pattern then pattern else text_or_none (other_segments pattern)

-- the first segment is `**`, and the others are searched for in the directory itself too
abbrev pub asks_here : List ℕ → Bool
asks_here pattern = is_deep pattern && is_some (other_segments pattern)

abbrev pub globs_below : List ℕ → Bool → List ℕ → List (List ℕ) → List Key
globs_below directory directories pattern names = map (λ name. key.Glob (path_in directory name) pattern directories) names

abbrev pub globs : List ℕ → Bool → List ℕ → List (List ℕ) → List Key
globs directory directories pattern names =
    if asks_here pattern
    then key.Glob directory (text_or_none (other_segments pattern)) directories ∷ globs_below directory directories (pattern_below pattern) names
    else globs_below directory directories (pattern_below pattern) names

-- ---- what is found

-- the paths that the answers find below the subdirectories, from the directory on
abbrev pub found_below : List (List ℕ) → List Value → List (List ℕ)
found_below [] answers = []
found_below (name ∷ names) [] = []
found_below (name ∷ names) (answer ∷ answers) = map (λ path. name ++ 47 ∷ path) (paths_of answer) ++ found_below names answers

-- the first answer is that of the directory itself
abbrev pub found_here : List (List ℕ) → List Value → List (List ℕ)
found_here names [] = []
found_here names (answer ∷ answers) = paths_of answer ++ found_below names answers

abbrev pub found_by : List ℕ → List (List ℕ) → List Value → List (List ℕ)
found_by pattern names answers = if asks_here pattern then found_here names answers else found_below names answers

-- ---- the turns

-- an empty group is not asked for
abbrev pub after_lookups : List ℕ → Bool → List ℕ → List (List ℕ) → List (List ℕ) → List (List ℕ) → List Value → Reply Key Value
after_lookups directory directories pattern files free names answers =
    if nat_lt (length answers) (length (globs directory directories pattern names)) then Ask (globs directory directories pattern names)
    else Done (value.Paths (sorted_names (own_found directories pattern files free ++ found_by pattern names answers)))

abbrev pub by_open : List ℕ → Bool → List ℕ → List (List ℕ) → List (List ℕ) → List Value → Reply Key Value
by_open directory directories pattern files free answers = after_lookups directory directories pattern files free (directories_to_enter directories pattern free) answers

abbrev pub after_listing : List ℕ → Bool → List ℕ → List (List ℕ) → List (List ℕ) → List Value → Reply Key Value
after_listing directory directories pattern files names answers =
    if nat_lt (length answers) (length names) then Ask (lookups directory names)
    else by_open directory directories pattern files (open_names names answers) (drop (length names) answers)

-- The listing of the directory, then the look-ups of the subdirectories that the pattern would descend into, and with
-- directories of those that would be found. Then come the globs below: that of the directory itself first, and those of
-- the subdirectories that are not packages.
abbrev pub step : List ℕ → Bool → List ℕ → List Value → Reply Key Value
step directory directories pattern [] = Ask (key.Listing directory ∷ [])
step directory directories pattern (listing ∷ answers) = after_listing directory directories pattern (files_in listing) (asked_names directories pattern (directories_in listing)) answers
