-- Objects that have been freed.
use Rattle.std.specs.Prelude.{◌≡◌, ℕ, true, List, Some, option_map, slice_get, filter}
use Rattle.values_objects.specs.ObjectBytes.{standing_bytes}
use Rattle.values_objects.specs.Standings.{Standing, is_own, is_gone, is_lent, stays}

-- an object has a place here, and has been freed
abbrev pub IsGone : List Standing → ℕ → Type 0
IsGone objects place = option_map is_gone (slice_get objects place) ≡ Some true

-- an attached object is here
abbrev pub IsLent : List Standing → ℕ → Type 0
IsLent objects place = option_map is_lent (slice_get objects place) ≡ Some true

-- an object has a place here, and has been freed or is attached
abbrev pub IsKept : List Standing → ℕ → Type 0
IsKept objects place = option_map stays (slice_get objects place) ≡ Some true

-- the bytes of an own object, by its number among these: what is attached has none
abbrev pub bytes_of_own : List Standing → (number : ℕ) → ℕ
bytes_of_own objects number = standing_bytes (slice_get (filter is_own objects) number)
