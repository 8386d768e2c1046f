-- The order of two lists, the left of which has ended.
use Rattle.std.specs.Prelude.{Option, Some, None}
use Rattle.std.specs.declared.cmp.Ordering.{Ordering}
use Rattle.std.specs.declared.cmp.Ordering.TheVariants.{Less, Equal}
use Rattle.values_semantics.specs.declared.val.Val.{Val}

-- less if the right has one more member
abbrev pub ended : Option Val → Ordering
ended None = Equal
ended (Some y) = Less
