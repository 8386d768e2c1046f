-- Objects whose members may be changed one by one.
use Rattle.std.specs.Prelude.{Bool, true, false}
use Rattle.values_objects.specs.declared.object.Object.{Object}
use Rattle.values_objects.specs.declared.object.Object.TheVariants as o

-- the object is not held as numbers alone
abbrev pub is_in_full : Object → Bool
is_in_full (o.Text bytes) = true
is_in_full (o.List members frozen) = true
is_in_full (o.Numbers numbers) = false
is_in_full (o.Tuple members) = true
is_in_full (o.Dict entries frozen) = true
is_in_full (o.Function label name) = true
