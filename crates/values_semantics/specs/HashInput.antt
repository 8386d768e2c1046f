-- What strings and parts of keys feed a hasher.
use Rattle.std.specs.Prelude.{ℕ, List, [], ◌∷◌}
use Rattle.std.specs.Hash as fed
use Rattle.values_semantics.specs.declared.key.Part.{Part}
use Rattle.values_semantics.specs.declared.key.Part.TheVariants as p

abbrev pub text_fed : List ℕ → fed.HashWrites
text_fed bytes = bytes ∷ []

abbrev pub part_fed : Part → fed.HashWrites
part_fed p.Nothing = fed.u8 0
part_fed (p.Bool a) = fed.bool a
part_fed (p.Int a) = fed.i64 a
part_fed (p.Text a) = text_fed a
part_fed (p.Tuple a) = fed.usize a
