-- What is on the heap: what was written there last.
use Rattle.std.specs.Prelude.{List, [], ◌∷◌}
use Rattle.values_semantics.specs.Heap.{Obj, function}
use Rattle.values_objects.specs.declared.object.Object.{Object}
use Rattle.values_objects.specs.Objects.{object_of}

-- what was written last; if nothing was, which never happens, some object
abbrev pub last_written : {B : Type 0} → List (Object × B) → Obj
last_written [] = function [] []
last_written (o ∷ _) = object_of o.0
