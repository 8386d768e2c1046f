-- The bytes of a string in memory.
use Rattle.std.specs.Prelude.{ℕ, List}
use Rattle.std.specs.Arc.{arc_value}
use Rattle.values_semantics.specs.declared.bytes.Inner.{Inner}
use Rattle.values_semantics.specs.declared.bytes.Inner.TheVariants.{Source, Made}

abbrev pub inner_bytes : Inner → List ℕ
inner_bytes (Source text) = text
inner_bytes (Made bytes) = (arc_value bytes).items
