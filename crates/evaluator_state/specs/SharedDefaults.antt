-- The values of a function's defaults, which are shared if it has some.
use Rattle.std.specs.Prelude.{List, []}
use Rattle.std.specs.Arc.{arc_value}
use Rattle.std.specs.declared.option.Option.{Option}
use Rattle.std.specs.declared.option.Option.TheVariants.{None, Some}
use Rattle.std.specs.declared.vec.Vec.{Vec}
use Rattle.std.specs.declared.alloc.Global.{Global}
use Rattle.std.specs.declared.sync.Arc.{Arc}
use denote.Ref.{Bor}
use Rattle.values_semantics.specs.declared.val.Val.{Val}

abbrev pub default_values : Option (Bor (Arc (Vec Val Global) Global)) → List Val
default_values None = []
default_values (Some values) = (arc_value values.now).items
