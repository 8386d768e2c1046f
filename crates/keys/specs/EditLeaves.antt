-- The leaves that edits touch.
use Rattle.std.specs.Prelude.{ℕ, List, [], ◌∷◌, map, flat_map}
use Rattle.engine_semantics.specs.Value.{In}
use Rattle.labels.specs.Labels.{ancestors}
use Rattle.keys.specs.declared.key.Key.{Key}
use Rattle.keys.specs.declared.key.Key.TheVariants.{File, Listing}

-- the leaves of one path: its file, and the listing of each directory that it lies below, with the root
abbrev pub leaves_of : List ℕ → List Key
leaves_of path = File path ∷ Listing [] ∷ map Listing (ancestors path)

-- the leaves of all these paths
abbrev pub touched_leaves : List (List ℕ) → List Key
touched_leaves paths = flat_map leaves_of paths

abbrev pub IsTouched : List (List ℕ) → Key → Type 0
IsTouched paths k = In k (touched_leaves paths)
