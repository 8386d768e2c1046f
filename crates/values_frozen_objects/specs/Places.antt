-- The place of a key among the entries of a dictionary.
use Rattle.std.specs.Prelude.{◌≡◌, ℕ, suc, List, [], ◌∷◌, Option, Some, None, option_map, if◌then◌else◌}
use Rattle.std.specs.HashMap.{HashMap, get}
use Rattle.values_semantics.specs.declared.key.Part.{Part}
use Rattle.values_semantics.specs.Keys.{same_key}
use Rattle.values_semantics.specs.Heap.{Entries}

-- the place of the first entry that has the key
abbrev pub place_of : List Part → Entries → Option ℕ
place_of k [] = None
place_of k (e ∷ es) = if same_key k e.0 then Some 0 else option_map suc (place_of k es)

-- a table has the place of each key
abbrev pub HasPlaces : {S : Type 0} → HashMap (List Part) ℕ S → Entries → Type 0
HasPlaces places es = (k : List Part) → get same_key places k ≡ place_of k es
