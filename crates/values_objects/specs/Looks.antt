-- What a read object is to the definitions.
use Rattle.std.specs.Prelude.{List}
use Rattle.std.specs.Borrow.{Bor}
use Rattle.values_semantics.specs.declared.key.Part.{Part}
use Rattle.values_semantics.specs.declared.val.Entry.{Entry}
use Rattle.values_semantics.specs.Heap.{Obj, text, list, tuple, dict, function}
use Rattle.values_objects.specs.declared.object_ref.ObjectRef.{ObjectRef}
use Rattle.values_objects.specs.declared.object_ref.ObjectRef.TheVariants as s

abbrev pub seen_object : ObjectRef → Obj
seen_object (s.Text bytes) = text bytes.now
seen_object (s.List members frozen) = list members frozen
seen_object (s.Tuple members) = tuple members
seen_object (s.Dict entries frozen) = dict entries frozen
seen_object (s.Function label name) = function label.now name.now

-- a key that is borrowed, with its entry
abbrev pub entry_seen : Bor (List Part) × Entry → List Part × Entry
entry_seen p = (p.0.now, p.1)
