-- Which pairs of bytes a name has, as the bits of a number.
use Rattle.std.specs.Prelude.{ℕ, List, [], ◌∷◌, ◌+◌, ◌*◌, ◌%◌, ◌^◌, bit_or}

-- one of 64 bits for two bytes
abbrev pub pair_bit : ℕ → ℕ → ℕ
pair_bit a b = 2 ^ ((a * 11 + b * 5) % 64)

-- the bit of a byte and the one after it, if there is one
abbrev pub front_mark : ℕ → List ℕ → ℕ
front_mark a [] = 0
front_mark a (b ∷ x) = pair_bit a b

abbrev pub pair_marks : List ℕ → ℕ
pair_marks [] = 0
pair_marks (a ∷ x) = bit_or (front_mark a x) (pair_marks x)
