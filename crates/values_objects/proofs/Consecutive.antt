-- Numbers, each by one greater than the one before.
use Rattle.std.proofs.Common.{◌≡◌, ℕ, zero, suc, ◌-◌, ◌<◌, ◌≤◌, ℤ, pos, negsuc, ◌+ℤ◌, ◌≤ℤ◌, FitsSigned, w64, ◌∷◌, length, take, drop, Some, None, refl, sym, ap, ◌∙◌, arith}
use Rattle.std.specs.Prelude.{slice_get}
use Rattle.std.proofs.lemmas.Int.{ints}
use Rattle.values_semantics.specs.declared.val.Val.TheVariants as v
use Rattle.values_semantics.specs.Indexing.{between}
use Rattle.values_semantics.specs.Functions.{numbers}

pub numbers_length : (n : ℕ) (from step : ℤ) → length (numbers n from step) ≡ n
numbers_length zero from step = refl
numbers_length (suc n) from step = ap suc (numbers_length n (from +ℤ step) step)

next_up : (f : ℤ) (i : ℕ) → (f +ℤ pos 1) +ℤ pos i ≡ f +ℤ pos (suc i)
next_up f i = omega (arith, ints)

none_up : (f : ℤ) → f +ℤ pos 0 ≡ f
none_up f = omega (arith, ints)

pub number_at : (n i : ℕ) (f : ℤ) → i < n → slice_get (numbers n f (pos 1)) i ≡ Some (v.Int (f +ℤ pos i))
number_at zero i f h = absurd (omega (arith, h))
number_at (suc n) zero f h = ap (λ m. Some (v.Int m)) (sym (none_up f))
number_at (suc n) (suc i) f h = number_at n i (f +ℤ pos 1) (omega (arith, h)) ∙ ap (λ m. Some (v.Int m)) (next_up f i)

pub no_number_at : (n i : ℕ) (f : ℤ) → n ≤ i → slice_get (numbers n f (pos 1)) i ≡ None
no_number_at zero i f h = refl
no_number_at (suc n) zero f h = absurd (omega (arith, h))
no_number_at (suc n) (suc i) f h = no_number_at n i (f +ℤ pos 1) (omega (arith, h))

drop_numbers : (a n : ℕ) (f : ℤ) → drop a (numbers n f (pos 1)) ≡ numbers (n - a) (f +ℤ pos a) (pos 1)
drop_numbers zero n f =
    let less : n - 0 ≡ n = omega arith in
    ap (λ m. numbers n m (pos 1)) (sym (none_up f)) ∙ ap (λ m. numbers m (f +ℤ pos 0) (pos 1)) (sym less)
drop_numbers (suc a) zero f =
    let less : 0 - suc a ≡ 0 = omega arith in
    ap (λ m. numbers m (f +ℤ pos (suc a)) (pos 1)) (sym less)
drop_numbers (suc a) (suc n) f =
    let less : suc n - suc a ≡ n - a = omega arith in
    drop_numbers a n (f +ℤ pos 1) ∙ ap (λ m. numbers (n - a) m (pos 1)) (next_up f a) ∙ ap (λ m. numbers m (f +ℤ pos (suc a)) (pos 1)) (sym less)

take_numbers : (k n : ℕ) (f : ℤ) → k ≤ n → take k (numbers n f (pos 1)) ≡ numbers k f (pos 1)
take_numbers zero n f h = refl
take_numbers (suc k) zero f h = absurd (omega (arith, h))
take_numbers (suc k) (suc n) f h = ap (λ l. v.Int f ∷ l) (take_numbers k n (f +ℤ pos 1) (omega (arith, h)))

pub numbers_between : (n a b : ℕ) (f : ℤ) → b ≤ n → numbers (b - a) (f +ℤ pos a) (pos 1) ≡ between (numbers n f (pos 1)) a b
numbers_between n a b f h = sym (ap (take (b - a)) (drop_numbers a n f) ∙ take_numbers (b - a) (n - a) (f +ℤ pos a) (omega (arith, h)))

pub all_taken : (n : ℕ) (f step : ℤ) → take n (numbers n f step) ≡ numbers n f step
all_taken zero f step = refl
all_taken (suc n) f step = ap (λ l. v.Int f ∷ l) (all_taken n (f +ℤ step) step)

pub first_fits : (f : ℤ) (n : ℕ) → negsuc 9223372036854775807 ≤ℤ f → (f +ℤ pos n) ≤ℤ pos 9223372036854775807 → FitsSigned w64 f
first_fits f n low high = omega (arith, ints)

pub number_fits : (f : ℤ) (n i : ℕ) → negsuc 9223372036854775807 ≤ℤ f → (f +ℤ pos n) ≤ℤ pos 9223372036854775807 → i ≤ n → FitsSigned w64 (f +ℤ pos i)
number_fits f n i low high h = omega (arith, ints)
