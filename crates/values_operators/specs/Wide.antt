-- The number that is given by its magnitude and its sign.
use Rattle.std.specs.Prelude.{ℕ, ℤ, pos, negsuc, ◌<◌, ◌^◌}
use Rattle.values_operators.specs.declared.numbers.Magnitude.{Magnitude}
use Rattle.values_operators.specs.declared.numbers.Magnitude.TheVariants.{Positive, Negative}

abbrev pub wide_value : Magnitude → ℤ
wide_value (Positive n) = pos n
wide_value (Negative n) = negsuc n

abbrev pub size : Magnitude → ℕ
size (Positive n) = n
size (Negative n) = n

-- it has 64 bits
abbrev pub IsNarrow : Magnitude → Type 0
IsNarrow x = size x < 2 ^ 63

abbrev pub IsNonzero : Magnitude → Type 0
IsNonzero (Positive n) = 0 < n
IsNonzero (Negative n) = Unit {0}
