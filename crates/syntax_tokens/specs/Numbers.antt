-- The number that digits spell.
use Rattle.std.specs.Prelude.{ℕ, ◌+◌, ◌-◌, ◌*◌, Bool, false, ◌==◌, nat_le, if◌then◌else◌, List, [], ◌∷◌, Option, Some, None}

-- The decimal number of digits, after others that spell the given number.
abbrev pub decimal : ℕ → List ℕ → ℕ
decimal n [] = n
decimal n (b ∷ bs) = decimal (10 * n + (b - 48)) bs

-- a zero with another digit after it
abbrev pub has_needless_zero : List ℕ → Bool
has_needless_zero (b ∷ c ∷ bs) = b == 48
has_needless_zero _ = false

-- the largest of 64 signed bits
abbrev pub largest : ℕ
largest = 9223372036854775807

-- the number that digits spell, if there is no needless zero in front and it is not too large
abbrev pub number_of : List ℕ → Option ℕ
number_of digits = if has_needless_zero digits then None else if nat_le (decimal 0 digits) largest then Some (decimal 0 digits) else None
