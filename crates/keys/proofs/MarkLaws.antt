-- The marks of names as bits.
use Rattle.std.proofs.Common.{◌≡◌, ◌∙◌, ap, sym, arith, ℕ, ◌+◌, ◌*◌, ◌%◌, ◌<◌, ◌^◌, bit_or, List, [], ◌∷◌, Some}
use Rattle.std.specs.Prelude.{slice_get}
use Rattle.std.specs.Int.Bits.{or_zero_r}
use Rattle.std.proofs.lemmas.Nat.{or_lt, pow_below}
use Rattle.std.proofs.lemmas.Nat.Bits.{bit_at_or, same_from_bits_below}
use Rattle.std.proofs.Math.Nat.{mod-lt}
use Rattle.keys.specs.Marks.{pair_bit, front_mark, pair_marks}

pub or_assoc : (a b c : ℕ) → a < 2 ^ 64 → b < 2 ^ 64 → c < 2 ^ 64 → bit_or (bit_or a b) c ≡ bit_or a (bit_or b c)
or_assoc a b c p q r =
    same_from_bits_below 64 (bit_or (bit_or a b) c) (bit_or a (bit_or b c)) (or_lt 64 (bit_or a b) c (or_lt 64 a b p q) r) (or_lt 64 a (bit_or b c) p (or_lt 64 b c q r))
    (λ i h. let first = bit_at_or (bit_or a b) c i in let second = bit_at_or a b i in let third = bit_at_or a (bit_or b c) i in let fourth = bit_at_or b c i in omega (arith, first, second, third, fourth))

bit_fits : (a b : ℕ) → pair_bit a b < 2 ^ 64
bit_fits a b = pow_below ((a * 11 + b * 5) % 64) 64 (mod-lt (a * 11 + b * 5) (omega arith))

front_fits : (a : ℕ) (x : List ℕ) → front_mark a x < 2 ^ 64
front_fits a [] = omega arith
front_fits a (b ∷ x) = bit_fits a b

pub marks_fit : (x : List ℕ) → pair_marks x < 2 ^ 64
marks_fit [] = omega arith
marks_fit (a ∷ x) = or_lt 64 (front_mark a x) (pair_marks x) (front_fits a x) (marks_fit x)

some_is : {a b : ℕ} → Some a ≡ Some b → a ≡ b
some_is e = cc

-- the mark of the first pair may be added first
pub mark_first : (marks a b : ℕ) (rest x all : List ℕ) → marks < 2 ^ 64 → rest ≡ a ∷ x → slice_get x 0 ≡ Some b → bit_or marks (pair_marks rest) ≡ pair_marks all → bit_or (bit_or marks (pair_bit a b)) (pair_marks x) ≡ pair_marks all
mark_first marks a b rest [] all m e f h = cc
mark_first marks a b rest (c ∷ x) all m e f h =
    let first : pair_bit a c ≡ pair_bit a b = ap (pair_bit a) (some_is f) in
    ap (λ n. bit_or (bit_or marks n) (pair_marks (c ∷ x))) (sym first) ∙ or_assoc marks (pair_bit a c) (pair_marks (c ∷ x)) m (bit_fits a c) (marks_fit (c ∷ x)) ∙ sym (ap (λ l. bit_or marks (pair_marks l)) e) ∙ h

pub marked : (marks : ℕ) (rest all : List ℕ) → rest ≡ [] → bit_or marks (pair_marks rest) ≡ pair_marks all → marks ≡ pair_marks all
marked marks rest all e h = sym (or_zero_r marks) ∙ sym (ap (λ l. bit_or marks (pair_marks l)) e) ∙ h
