-- What is at the places of a heap: its own objects, and the ranges that are attached to it among them.
use Rattle.std.specs.Prelude.{◌≡◌, ℕ, suc, ◌+◌, ◌-◌, ◌<◌, ◌≤◌, List, [], ◌∷◌, ◌++◌, map, drop, length, Option, Some, None, if◌then◌else◌, nat_lt, slice_get}
use Rattle.std.specs.Arc.{arc_value}
use Rattle.values_semantics.specs.Heap.{Obj}
use Rattle.values_semantics.specs.Indexing.{between}
use Rattle.values_frozen_objects.specs.Shift.{moved}
use Rattle.values_heap.specs.declared.objects.Range.{Range}
use Rattle.values_objects.specs.Standings.{Standing, lent}

-- an object that is attached, where this many objects are before the first of its range
abbrev pub lent_at : ℕ → Obj → Standing
lent_at start object = lent (moved start object)

-- the objects of a range
abbrev pub range_standings : Range → List Standing
range_standings r = map (lent_at r.start) (arc_value r.objects)

-- What is at the places from the own object `first` on: the own ones, and where a range begins, what it gives. Of the
-- objects before, the given number are attached, and the others are own ones.
abbrev pub laid_by : {A : Type 0} → (Range → List A) → List Range → (first lent_before : ℕ) → List A → List A
laid_by gives [] first lent_before objects = drop first objects
laid_by gives (r ∷ rs) first lent_before objects = between objects first (r.start - lent_before) ++ (gives r ++ laid_by gives rs (r.start - lent_before) r.through objects)

abbrev pub laid : List Range → List Standing → List Standing
laid rs objects = laid_by range_standings rs 0 0 objects

-- Ranges are one after the other, from the own object `first` on, which is after the given number of attached ones; the
-- last ends at `from`, and there are `all_lent` attached objects.
abbrev pub InOrder : List Range → (first lent_before number from all_lent : ℕ) → Type 0
InOrder [] first lent_before number from all_lent = (from ≡ first + lent_before) × (all_lent ≡ lent_before) × (first ≤ number)
InOrder (r ∷ rs) first lent_before number from all_lent =
    (first + lent_before ≤ r.start) × (r.start ≤ number + lent_before) × (r.end ≡ r.start + length (arc_value r.objects)) × (r.through ≡ lent_before + length (arc_value r.objects)) × InOrder rs (r.start - lent_before) r.through number from all_lent

-- this many of the ranges begin at a place or before it: the last of these does, and the next one does not
pub record Begun (rs : List Range) (place n : ℕ) : Type 0 where
  pub within : n ≤ length rs
  pub last : (i : ℕ) (r : Range) → n ≡ suc i → slice_get rs i ≡ Some r → r.start ≤ place
  pub next : (r : Range) → slice_get rs n ≡ Some r → place < r.start

-- at a place there is an own object, by its number among these, or one of a range, by its number in that range
pub data Where : Type 0 where
  among_own : ℕ → Where
  among_lent : Range → ℕ → Where

abbrev pub where_is : List Range → (lent_before place : ℕ) → Where
where_is [] lent_before place = among_own (place - lent_before)
where_is (r ∷ rs) lent_before place = if nat_lt place r.start then among_own (place - lent_before) else (if nat_lt place r.end then among_lent r (place - r.start) else where_is rs r.through place)

abbrev pub found_there : {A : Type 0} → (Range → List A) → List A → Where → Option A
found_there gives objects (among_own i) = slice_get objects i
found_there gives objects (among_lent r i) = slice_get (gives r) i

abbrev pub own_number : Where → Option ℕ
own_number (among_own i) = Some i
own_number (among_lent r i) = None
