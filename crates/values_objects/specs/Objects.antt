-- What an object in memory is to the definitions.
use Rattle.std.specs.Prelude.{false}
use Rattle.values_semantics.specs.Heap.{Obj, text, list, tuple, dict, function}
use Rattle.values_objects.specs.declared.object.Object.{Object}
use Rattle.values_objects.specs.declared.object.Object.TheVariants as o
use Rattle.values_objects.specs.Numbers.{shown}

abbrev pub object_of : Object → Obj
object_of (o.Text bytes) = text bytes
object_of (o.List members frozen) = list members.items frozen
object_of (o.Numbers numbers) = list (shown numbers) false
object_of (o.Tuple members) = tuple members.items
object_of (o.Dict entries frozen) = dict entries.value.entries frozen
object_of (o.Function label name) = function label name
