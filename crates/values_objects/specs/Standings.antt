-- What is at a place of a heap.
use Rattle.std.specs.Prelude.{Bool, true, false, is_none, ◌||◌}
use Rattle.values_semantics.specs.Heap.{Obj}
use Rattle.values_objects.specs.declared.heap_object.HeapObject.{HeapObject}
use Rattle.values_objects.specs.Own.{written_object}

-- an own object of the heap, which may have been freed, or one that is attached
pub data Standing : Type 0 where
  own : Obj → (is_gone : Bool) → Standing
  lent : Obj → Standing

abbrev pub standing_object : Standing → Obj
standing_object (own object gone) = object
standing_object (lent object) = object

abbrev pub is_gone : Standing → Bool
is_gone (own object gone) = gone
is_gone (lent object) = false

abbrev pub is_own : Standing → Bool
is_own (own object gone) = true
is_own (lent object) = false

abbrev pub is_lent : Standing → Bool
is_lent (own object gone) = false
is_lent (lent object) = true

-- whether an object has been freed or is attached
abbrev pub stays : Standing → Bool
stays s = is_gone s || is_lent s

abbrev pub has_gone : HeapObject → Bool
has_gone h = is_none h.object

abbrev pub standing_of : HeapObject → Standing
standing_of h = own (written_object h) (has_gone h)

-- an own object that has been freed
abbrev pub gone_own : Obj → Standing
gone_own object = own object true

-- the object that is there, even after it has been freed
unfoldable pub object_in : Standing → Obj
object_in s = standing_object s
