-- Whole numbers of 64 bits with a sign.
use Rattle.std.specs.Prelude.{ℕ, ℤ, pos, negsuc, suc, ◌-◌, ◌/◌, ◌%◌, ◌&&◌, neg_ℤ, int_le, Bool, if◌then◌else◌}
use Rattle.std.specs.Ordering.{int_eq}
use Rattle.values_semantics.specs.declared.val.Val.{Val}
use Rattle.values_semantics.specs.declared.val.Val.TheVariants as v
use Rattle.values_semantics.specs.Outcome.{Does, pure, fault, ValueOrFault, good, bad}
use Rattle.values_semantics.specs.declared.faults.TheConstants.{OVERFLOW, ZERO_DIVISOR}

abbrev pub fits : ℤ → Bool
fits z = int_le (negsuc 9223372036854775807) z && int_le z (pos 9223372036854775807)

-- a result outside of 64 bits is fault 9
abbrev pub fitting : ℤ → ValueOrFault Val
fitting z = if fits z then good (v.Int z) else bad OVERFLOW

abbrev pub whole : {S : Type 0} → ℤ → Does S Val
whole z = if fits z then pure (v.Int z) else fault OVERFLOW

-- the greatest whole number that is not above x / n, for n over 0
abbrev pub floor_over : ℤ → ℕ → ℤ
floor_over (pos x) n = pos (x / n)
floor_over (negsuc x) n = negsuc (x / n)

-- `//` rounds towards negative infinity
abbrev pub floor_div : ℤ → ℤ → ℤ
floor_div x (pos n) = floor_over x n
floor_div x (negsuc n) = floor_over (neg_ℤ x) (suc n)

-- what is left of x over n, from 0 to below n
abbrev pub left_over : ℤ → ℕ → ℕ
left_over (pos x) n = x % n
left_over (negsuc x) n = n - suc (x % n)

-- `%` has the divisor's sign: x is y * (x // y) + x % y
abbrev pub floor_rem : ℤ → ℤ → ℤ
floor_rem x (pos n) = pos (left_over x n)
floor_rem x (negsuc n) = neg_ℤ (pos (left_over (neg_ℤ x) (suc n)))

-- a division by 0 is fault 10
abbrev pub unless_zero : ℤ → ℤ → ValueOrFault Val
unless_zero y z = if int_eq y (pos 0) then bad ZERO_DIVISOR else fitting z
