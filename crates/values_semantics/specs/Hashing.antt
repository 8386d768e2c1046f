-- Keys of dictionaries: None, bools, ints, strings and tuples of keys.
use Rattle.std.specs.Prelude.{ℕ, zero, suc, List, [], ◌∷◌, ◌++◌, length, Option, Some, None, slice_get, true, false}
use Rattle.values_semantics.specs.declared.key.Part.{Part}
use Rattle.values_semantics.specs.declared.key.Part.TheVariants as p
use Rattle.values_semantics.specs.declared.val.Val.{Val}
use Rattle.values_semantics.specs.declared.val.Val.TheVariants as v
use Rattle.values_semantics.specs.Outcome.{Does, ◌>>=◌, ◌>>◌, pure, fault, tick}
use Rattle.values_semantics.specs.Heap.{Obj, text, tuple}
use Rattle.values_semantics.specs.declared.faults.TheConstants.{TOO_DEEP, WRONG_TYPE}

-- what a value is as a key
pub data AsKey : Type 0 where
  part : Part → AsKey
  parts : List Val → AsKey
  no_key : AsKey

abbrev pub object_as_key : Option Obj → AsKey
object_as_key (Some (text bytes)) = part (p.Text bytes)
object_as_key (Some (tuple members)) = parts members
object_as_key object = no_key

abbrev pub as_key : List Obj → Val → AsKey
as_key heap v.Nothing = part p.Nothing
as_key heap v.True = part (p.Bool true)
as_key heap v.False = part (p.Bool false)
as_key heap (v.Int n) = part (p.Int n)
as_key heap (v.Builtin n) = no_key
as_key heap (v.At place) = object_as_key (slice_get heap place)

-- the parts of keys, one after another
abbrev pub along : (Val → Does ℕ (List Part)) → List Val → Does ℕ (List Part)
along key [] = pure []
along key (x ∷ xs) = key x >>= λ ps. along key xs >>= λ qs. pure (ps ++ qs)

abbrev pub part_key : Part → Does ℕ (List Part)
part_key p = tick >> pure (p ∷ [])

-- one visit, where the members of a tuple may be entered only with a walk for them
abbrev pub visit_key : Option (Val → Does ℕ (List Part)) → AsKey → Does ℕ (List Part)
visit_key inner (part p) = part_key p
visit_key inner no_key = tick >> fault WRONG_TYPE
visit_key None (parts members) = fault TOO_DEEP
visit_key (Some key) (parts members) = tick >> (along key members >>= λ ps. pure (p.Tuple (length members) ∷ ps))

-- hashing a value, where this many more containers may be entered: each value visited is a step; what cannot be a key
-- is fault 5, and a container past the last is fault 12
unfoldable pub key : ℕ → List Obj → Val → Does ℕ (List Part)
key zero heap x = visit_key None (as_key heap x)
key (suc n) heap x = visit_key (Some (key n heap)) (as_key heap x)

-- the walk for the members of a tuple, if one more container may be entered
unfoldable pub inner_key : ℕ → List Obj → Option (Val → Does ℕ (List Part))
inner_key zero heap = None
inner_key (suc n) heap = Some (key n heap)
