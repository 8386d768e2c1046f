-- The segments of a pattern that may be there.
use Rattle.std.specs.Prelude.{ℕ, List, [], Option, Some, None}
use Rattle.labels.specs.Paths.{segments}

abbrev pub rest_segments : Option (List ℕ) → List (List ℕ)
rest_segments None = []
rest_segments (Some rest) = segments rest
