-- A table as the list of its entries: a key's number is its place.
use Rattle.std.specs.Prelude.{◌≡◌, ◌≢◌, ℕ, ◌≤◌, List, ◌++◌, Option, Some, length, slice_get, position}
use Rattle.std.specs.List.{IsDistinct}
use Rattle.std.specs.Map.{keys_of, values_of, lookup}
use Rattle.keys.specs.Keys.{key_eq}
use Rattle.keys.specs.declared.key.Key.{Key}

module _ {V : Type 0} where
  -- the key with a number
  abbrev pub key_at : List (Key × V) → ℕ → Option Key
  key_at entries n = slice_get (keys_of entries) n

  -- the value of the key with a number
  abbrev pub value_at : List (Key × V) → ℕ → Option V
  value_at entries n = slice_get (values_of entries) n

  -- the number of a key
  abbrev pub number_of : List (Key × V) → Key → Option ℕ
  number_of entries k = position (key_eq k) (keys_of entries)

  -- the value of a key
  abbrev pub value_of : List (Key × V) → Key → Option V
  value_of entries k = lookup (key_eq k) entries

  -- no key is there twice
  abbrev pub AreDistinct : List (Key × V) → Type 0
  AreDistinct entries = IsDistinct key_eq (keys_of entries)

  -- no key is there twice, and each number is a word of 32 bits
  pub record IsTable (entries : List (Key × V)) : Type 0 where
    pub distinct : AreDistinct entries
    pub few : length entries ≤ 4294967295

  -- the old keys are the first of the new ones
  pub record Grows (old new : List (Key × V)) : Type 0 where
    pub more : List Key
    pub keys : keys_of new ≡ keys_of old ++ more

  -- the value of one key is written, and the keys stay
  pub record Writes (old new : List (Key × V)) (k : Key) (v : V) : Type 0 where
    pub keys : keys_of new ≡ keys_of old
    pub there : value_of new k ≡ Some v
    pub others : (j : Key) → k ≢ j → value_of new j ≡ value_of old j
