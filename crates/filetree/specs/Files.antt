-- The files, and their edits.
use Rattle.filetree.specs.declared.refusals.TheConstants.{BAD_PATH, IN_THE_WAY, NO_FILE, TEXT_TOO_LONG}
use Rattle.std.specs.Prelude.{ℕ, List, length, Bool, ◌||◌, ◌&&◌, ◌==◌, slice_index, not, nat_lt, nat_eq, Option, Some, None, if◌then◌else◌}
use Rattle.std.specs.Ordering.{nat_cmp}
use Rattle.std.specs.Cmp.Lexicographic.{slice_cmp}
use Rattle.std.specs.List.{list_any, starts_with}
use Rattle.std.specs.FinMap as map
pub use Rattle.labels.specs.Paths.{is_path}

-- texts by their paths
abbrev pub Files : Type 0
Files = map.FinMap (slice_cmp nat_cmp) (List ℕ)

-- the other path is the path, a slash and more
abbrev pub is_ancestor : List ℕ → List ℕ → Bool
is_ancestor path other = starts_with nat_eq other path && (slice_index other (length path) == 47)

abbrev pub is_file : Files → List ℕ → Bool
is_file files path = map.contains_key files path

-- a file lies below the path
abbrev pub is_directory : Files → List ℕ → Bool
is_directory files path = list_any (λ file. is_ancestor path file) (map.keys files)

abbrev pub is_below_a_file : Files → List ℕ → Bool
is_below_a_file files path = list_any (λ file. is_ancestor file path) (map.keys files)

abbrev pub text_limit : ℕ
text_limit = 262144

-- the first refusal of a put, and of a removal
abbrev pub put_refusal : Files → List ℕ → List ℕ → Option ℕ
put_refusal files path text =
    if not (is_path path) then Some BAD_PATH else
    if nat_lt text_limit (length text) then Some TEXT_TOO_LONG else
    if is_below_a_file files path || is_directory files path then Some IN_THE_WAY else None

abbrev pub del_refusal : Files → List ℕ → Option ℕ
del_refusal files path = if not (is_path path) then Some BAD_PATH else if not (is_file files path) then Some NO_FILE else None
