-- Where the numbers of a range are.
use Rattle.std.specs.Prelude.{◌≡◌, ℤ, pos, int_lt, Bool, if◌then◌else◌}

-- a number is before the end, in the direction of the step
abbrev pub lies_before : (n to step : ℤ) → Bool
lies_before n to step = if int_lt (pos 0) step then int_lt n to else int_lt to n

abbrev pub IsNonzero : ℤ → Type 0
IsNonzero step = ¬ (step ≡ pos 0)
