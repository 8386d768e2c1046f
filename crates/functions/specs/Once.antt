-- Members of a group that may repeat, and their answers.
use Rattle.std.specs.Prelude.{◌≡◌, ℕ, List, [], ◌∷◌, ◌++◌, Bool, if◌then◌else◌, Option, Some, None}
use Rattle.std.specs.BTreeMap.{BTreeMap, get}
use Rattle.std.specs.List.{list_any, slice_get}
use Rattle.keys.specs.Keys.{key_cmp, key_eq}
use Rattle.keys.specs.declared.key.Key.{Key}
use Rattle.keys.specs.declared.value.Value.{Value}

abbrev pub has_key : Key → List Key → Bool
has_key k keys = list_any (λ j. key_eq k j) keys

-- those that are not among others, each at its first place
abbrev pub once_behind : List Key → List Key → List Key
once_behind done [] = []
once_behind done (k ∷ keys) = if has_key k done then once_behind done keys else k ∷ once_behind (done ++ k ∷ []) keys

abbrev pub once : List Key → List Key
once keys = once_behind [] keys

-- the answer of a key, by the group that was asked for
abbrev pub answer_at : Key → List Key → List Value → Option Value
answer_at k [] answers = None
answer_at k (j ∷ group) [] = None
answer_at k (j ∷ group) (answer ∷ answers) = if key_eq k j then Some answer else answer_at k group answers

-- the answer at a place
abbrev pub answer_by : Option ℕ → List Value → Option Value
answer_by None answers = None
answer_by (Some place) answers = slice_get answers place

-- the answer of a key, by the keys' places
abbrev pub answer_in : BTreeMap Key ℕ → Key → List Value → Option Value
answer_in places k answers = answer_by (get key_cmp places k) answers

-- by these places each key has the answer that it has by the group
abbrev pub ArePlaces : BTreeMap Key ℕ → List Key → Type 0
ArePlaces places group = (k : Key) (answers : List Value) → answer_in places k answers ≡ answer_at k group answers
