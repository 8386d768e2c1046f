-- The bytes of a text.
use Rattle.std.specs.Prelude.{ℕ, List}
use Rattle.std.specs.Arc.{arc_value}
use Rattle.std.specs.String.{string_bytes}
use Rattle.base_types.specs.declared.text.Storage.{Storage}
use Rattle.base_types.specs.declared.text.Storage.TheVariants as h

abbrev pub bytes_of : Storage → List ℕ
bytes_of (h.Short text) = text
bytes_of (h.Block text) = (arc_value text).bytes
bytes_of (h.Long text) = string_bytes (arc_value text)
