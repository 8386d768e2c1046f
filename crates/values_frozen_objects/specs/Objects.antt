-- What an object of frozen values in memory is to the definitions.
use Rattle.std.specs.Prelude.{List, true}
use Rattle.std.specs.Borrow.{Bor}
use Rattle.values_semantics.specs.declared.key.Part.{Part}
use Rattle.values_semantics.specs.declared.val.Entry.{Entry}
use Rattle.values_semantics.specs.Heap.{Obj, text, list, tuple, dict, function}
use Rattle.values_frozen_objects.specs.declared.object.FrozenObject.{FrozenObject}
use Rattle.values_frozen_objects.specs.declared.object.FrozenObject.TheVariants as o

abbrev pub frozen_obj : FrozenObject → Obj
frozen_obj (o.Text bytes) = text bytes
frozen_obj (o.List members) = list members.items true
frozen_obj (o.Tuple members) = tuple members.items
frozen_obj (o.Dict entries) = dict entries true
frozen_obj (o.Function label name) = function label name

-- a key and an entry that are borrowed
abbrev pub pair_seen : Bor (List Part) × Bor Entry → List Part × Entry
pair_seen p = (p.0.now, p.1.now)
