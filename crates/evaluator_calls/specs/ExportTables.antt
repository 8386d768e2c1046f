-- The values of a module's own names, by their places.
use Rattle.std.specs.Prelude.{ℕ, List, Option, Some, None, option_map, slice_get, if◌then◌else◌}
use Rattle.values_semantics.specs.Freezing.{Fz}
use Rattle.values_modules.specs.Values.{Frozen}
use Rattle.evaluator_semantics.specs.Modules.{frozen_at, is_private}

-- the value at a place, or none
abbrev pub value_at : List Frozen → Option ℕ → Option Fz
value_at own None = None
value_at own (Some i) = option_map (λ f. f.value) (slice_get own i)

-- what a load of a name gives, among a module's own names
abbrev pub exported_among : List ℕ → List Frozen → Option Fz
exported_among x own = if is_private x then None else frozen_at x own
