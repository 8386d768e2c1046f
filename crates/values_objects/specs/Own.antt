-- What an object that is on the heap is to the definitions.
use Rattle.values_semantics.specs.Heap.{Obj}
use Rattle.values_objects.specs.declared.heap_object.HeapObject.{HeapObject}
use Rattle.values_objects.specs.LastWrite.{last_written}

-- the object that is there, even after it has been freed
unfoldable pub written_object : HeapObject → Obj
written_object h = last_written h.written.items
