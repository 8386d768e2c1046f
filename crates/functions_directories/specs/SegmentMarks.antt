-- The pairs of bytes that a pattern's segment asks of a name.
use Rattle.std.specs.Prelude.{ℕ, List, [], ◌∷◌, Bool, ◌||◌, ◌==◌, bit_and, bit_or, if◌then◌else◌}
use Rattle.pattern.specs.Patterns.{is_star}
use Rattle.keys.specs.Marks.{pair_bit, pair_marks}
use Rattle.functions_directories.specs.Globs.{first_segment}

-- the bit of a byte and the one after it, if there is one and neither is a star
abbrev pub wanted_front : ℕ → List ℕ → ℕ
wanted_front a [] = 0
wanted_front a (b ∷ f) = if is_star a || is_star b then 0 else pair_bit a b

-- the bits of the pairs of bytes that stand next to each other in a segment
abbrev pub wanted_marks : List ℕ → ℕ
wanted_marks [] = 0
wanted_marks (a ∷ f) = bit_or (wanted_front a f) (wanted_marks f)

-- a name has the bits that the first segment of a pattern asks for
abbrev pub is_marked : List ℕ → List ℕ → Bool
is_marked pattern name = bit_and (pair_marks name) (wanted_marks (first_segment pattern)) == wanted_marks (first_segment pattern)
