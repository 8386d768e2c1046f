-- What a key in memory is to the definitions.
use Rattle.std.specs.Prelude.{List, ◌∷◌, []}
use Rattle.values_semantics.specs.declared.key.Part.{Part}
use Rattle.values_semantics.specs.declared.key.Parts.{Parts}
use Rattle.values_semantics.specs.declared.key.Parts.TheVariants as parts

abbrev pub parts_of : Parts → List Part
parts_of (parts.One part) = part ∷ []
parts_of (parts.Several all) = all.items
