-- What a value of a frozen object is to the definitions.
use Rattle.values_semantics.specs.declared.val.Val.{Val}
use Rattle.values_semantics.specs.declared.val.Val.TheVariants as v
use Rattle.values_frozen_objects.specs.declared.value.Inner.{Inner}
use Rattle.values_frozen_objects.specs.declared.value.Inner.TheVariants as i
use Rattle.values_semantics.specs.Values.{bool_value, builtin_value}

abbrev pub inner_val : Inner → Val
inner_val i.Nothing = v.Nothing
inner_val (i.Bool b) = bool_value b
inner_val (i.Int n) = v.Int n
inner_val (i.Builtin f) = builtin_value f
inner_val (i.At place) = v.At place
