-- What the search for a place has found.
use Rattle.std.specs.Prelude.{ℕ, List, Option, Some, None, option_map, slice_get}
use Rattle.values_frozen_objects.specs.Objects.{frozen_obj}
use Rattle.values_heap.specs.declared.objects.Spot.{Spot}
use Rattle.values_heap.specs.declared.objects.Spot.TheVariants as s
use Rattle.values_objects.specs.Standings.{Standing}
use Rattle.values_heap.specs.Ranges.{lent_at}

abbrev pub sought : List Standing → Spot → Option Standing
sought objects (s.Own i) = slice_get objects i
sought objects (s.Lent object base) = option_map (λ o. lent_at base (frozen_obj o.now)) object

-- the number among the own objects
abbrev pub sought_number : Spot → Option ℕ
sought_number (s.Own i) = Some i
sought_number (s.Lent object base) = None
