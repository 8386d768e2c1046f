-- The bytes that objects count for.
use Rattle.std.specs.Prelude.{ℕ, ◌+◌, ◌*◌, length, Option, Some, None, if◌then◌else◌}
use Rattle.values_semantics.specs.Heap.{Obj, text, list, tuple, dict, function}
use Rattle.values_objects.specs.declared.heap_object.HeapObject.{HeapObject}
use Rattle.values_objects.specs.declared.object.Object.{Object}
use Rattle.values_objects.specs.declared.object.Shape.{Shape}
use Rattle.values_objects.specs.declared.object.Shape.TheVariants as sh
use Rattle.values_objects.specs.Own.{written_object}
use Rattle.values_objects.specs.Standings.{Standing, own, lent}

-- an object counts for 64 bytes, and for 1 for each byte, 16 for each member, 96 for each entry
abbrev pub object_bytes : Obj → ℕ
object_bytes (text bytes) = length bytes + 64
object_bytes (list members frozen) = length members * 16 + 64
object_bytes (tuple members) = length members * 16 + 64
object_bytes (dict entries frozen) = length entries * 96 + 64
object_bytes (function label name) = 64

-- the same, by how many bytes, members or entries it has
abbrev pub shape_bytes : Shape → ℕ
shape_bytes (sh.Bytes n) = n + 64
shape_bytes (sh.Members n) = n * 16 + 64
shape_bytes (sh.Entries n) = n * 96 + 64
shape_bytes sh.Plain = 64

abbrev pub found_bytes : Option Obj → ℕ
found_bytes (Some object) = object_bytes object
found_bytes None = 0

-- the bytes that an object counts for until it is freed
abbrev pub bytes_while : Option Object → ℕ → ℕ
bytes_while (Some _) bytes = bytes
bytes_while None bytes = 0

abbrev pub counted_bytes : HeapObject → ℕ
counted_bytes h = bytes_while h.object (object_bytes (written_object h))

-- the same, of what is at a place: what is attached counts for nothing
abbrev pub standing_bytes : Option Standing → ℕ
standing_bytes (Some (own object gone)) = if gone then 0 else object_bytes object
standing_bytes (Some (lent object)) = 0
standing_bytes None = 0

-- the bytes of a copy of what is at a place: what has been freed counts for nothing
abbrev pub copy_bytes : Option Standing → ℕ
copy_bytes (Some (own object gone)) = if gone then 0 else object_bytes object
copy_bytes (Some (lent object)) = object_bytes object
copy_bytes None = 0
