-- Lists repeated.
use Rattle.std.proofs.Common.{◌≡◌, ℕ, zero, suc, ◌+◌, ◌*◌, ◌/◌, ◌%◌, ℤ, pos, negsuc, true, false, List, [], ◌∷◌, ◌++◌, length, refl, sym, ap, ◌∙◌, append_assoc, add-one, length-append, arith}
use Rattle.std.proofs.lemmas.List.{append-nil}
use borrow.Author.Tests.{leb-true}
use lib.Signed.{le_z}
use lib.IntN.{nat_abs}
use Rattle.values_semantics.specs.Operators.{times, repeated}

turned : {A : Type 0} → (n : ℕ) (xs : List A) → times n xs ++ xs ≡ xs ++ times n xs
turned zero xs = sym (append-nil xs)
turned (suc n) xs = append_assoc xs (times n xs) xs ∙ ap (λ l. xs ++ l) (turned n xs)

-- once more
pub times_more : {A : Type 0} → (n : ℕ) (xs : List A) → times (n + 1) xs ≡ times n xs ++ xs
times_more n xs = rw add-one (sym (turned n xs))

-- once more, after others
pub longer : {A : Type 0} → (before xs all : List A) (n : ℕ) → all ≡ before ++ times n xs → all ++ xs ≡ before ++ times (n + 1) xs
longer before xs all n e = ap (λ l. l ++ xs) e ∙ append_assoc before (times n xs) xs ∙ ap (λ l. before ++ l) (sym (times_more n xs))

none_more : (m : ℕ) → 0 + m ≡ m
none_more m = omega arith

one_before : (n m : ℕ) → suc n + m ≡ suc (n + m)
one_before n m = omega arith

none_of : (m : ℕ) → 0 * m ≡ 0
none_of m = omega arith

one_more_of : (n m : ℕ) → suc n * m ≡ m + n * m
one_more_of n m = omega arith

times_sum : {A : Type 0} → (n m : ℕ) (xs : List A) → times (n + m) xs ≡ times n xs ++ times m xs
times_sum zero m xs = ap (λ k. times k xs) (none_more m)
times_sum (suc n) m xs = ap (λ k. times k xs) (one_before n m) ∙ ap (λ l. xs ++ l) (times_sum n m xs) ∙ sym (append_assoc xs (times n xs) (times m xs))

times_product : {A : Type 0} → (n m : ℕ) (xs : List A) → times (n * m) xs ≡ times n (times m xs)
times_product zero m xs = ap (λ k. times k xs) (none_of m)
times_product (suc n) m xs = ap (λ k. times k xs) (one_more_of n m) ∙ times_sum m (n * m) xs ∙ ap (λ l. times m xs ++ l) (times_product n m xs)

parts : (n : ℕ) → n / 256 * 256 + n % 256 ≡ n
parts n = omega arith

-- whole blocks, each of so many, and the rest
pub times_blocks : {A : Type 0} → (n : ℕ) (xs : List A) → times (n / 256) (times 256 xs) ++ times (n % 256) xs ≡ times n xs
times_blocks n xs = ap (λ l. l ++ times (n % 256) xs) (sym (times_product (n / 256) 256 xs)) ∙ sym (times_sum (n / 256 * 256) (n % 256) xs) ∙ ap (λ k. times k xs) (parts n)

pub times_length : {A : Type 0} → (n : ℕ) (xs : List A) → length (times n xs) ≡ n * length xs
times_length zero xs = omega arith
times_length (suc n) xs = omega (arith, length-append xs (times n xs), times_length n xs)

nothing : {A : Type 0} → (n : ℕ) → times {A = A} n [] ≡ []
nothing zero = refl
nothing (suc n) = nothing n

pub times_empty : {A : Type 0} → (n : ℕ) (xs : List A) → length xs ≡ 0 → times n xs ≡ []
times_empty n [] h = nothing n
times_empty n (x ∷ xs) h = absurd (omega (arith, h))

low : {A : Type 0} → (xs : List A) (m : ℤ) → le_z m (pos 0) ≡ true → repeated xs m ≡ []
low xs (pos zero) h = refl
low xs (pos (suc n)) h = absurd (omega (arith, leb-true (suc n) 0 h))
low xs (negsuc n) h = refl

high : {A : Type 0} → (xs : List A) (m : ℤ) → le_z m (pos 0) ≡ false → repeated xs m ≡ times (nat_abs m) xs
high xs (pos n) h = refl
high xs (negsuc n) h = cc

pub repeated_low : {A : Type 0} → (xs : List A) (n m : ℤ) → m ≡ n → le_z m (pos 0) ≡ true → repeated xs n ≡ []
repeated_low xs n m e h = ap (repeated xs) (sym e) ∙ low xs m h

pub repeated_high : {A : Type 0} → (xs : List A) (n m : ℤ) → m ≡ n → le_z m (pos 0) ≡ false → times (nat_abs m) xs ≡ repeated xs n
repeated_high xs n m e h = sym (high xs m h) ∙ ap (repeated xs) e
