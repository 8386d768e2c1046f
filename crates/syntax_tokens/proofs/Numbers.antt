-- A number that has grown too large stays so.
use Rattle.std.proofs.Common.{◌≡◌, ℕ, ◌+◌, ◌-◌, ◌*◌, ◌<◌, ◌≤◌, List, [], ◌∷◌, length, get_or, drop, None, arith}
use Rattle.std.proofs.lemmas.List.{at_drop_more}
use Rattle.std.proofs.lemmas.Bool.Decides.{nat_tests}
use Rattle.syntax_tokens.specs.Numbers.{decimal, largest, number_of}

grows : (n : ℕ) (bs : List ℕ) → n ≤ decimal n bs
grows n [] = omega arith
grows n (b ∷ bs) = omega (arith, grows (10 * n + (b - 48)) bs)

none_above : (digits : List ℕ) → largest < decimal 0 digits → None ≡ number_of digits
none_above digits h = grind (arith, nat_tests)

pub too_large : (value i : ℕ) (digits : List ℕ) → decimal value (drop i digits) ≡ decimal 0 digits → i < length digits → largest < 10 * value + (get_or digits i 0 - 48) → None ≡ number_of digits
too_large value i digits e lt h =
    none_above digits (omega (arith, at_drop_more (decimal value) digits i 0 lt, grows (10 * value + (get_or digits i 0 - 48)) (drop (i + 1) digits)))
