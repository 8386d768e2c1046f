-- Reads of lists, and results.
use Rattle.std.proofs.Common.{◌≡◌, ℕ, zero, suc, ◌+◌, ◌-◌, ◌<◌, ◌≤◌, List, [], ◌∷◌, ◌++◌, length, take, drop, refl, ap, ◌∙◌, arith, Result, Ok, Err}
use Rattle.std.specs.Prelude.{slice_get, OnErr}

pub get_left : {A : Type 0} (xs ys : List A) (i : ℕ) → i < length xs → slice_get (xs ++ ys) i ≡ slice_get xs i
get_left [] ys i h = absurd (omega (arith, h))
get_left (x ∷ xs) ys zero h = refl
get_left (x ∷ xs) ys (suc i) h = get_left xs ys i (omega (arith, h))

pub get_right : {A : Type 0} (xs ys : List A) (i : ℕ) → slice_get (xs ++ ys) (length xs + i) ≡ slice_get ys i
get_right [] ys i = ap (slice_get ys) (omega arith)
get_right (x ∷ xs) ys i =
    let more : length (x ∷ xs) + i ≡ suc (length xs + i) = omega arith in
    ap (slice_get (x ∷ (xs ++ ys))) more ∙ get_right xs ys i

pub get_drop : {A : Type 0} (n : ℕ) (xs : List A) (i : ℕ) → slice_get (drop n xs) i ≡ slice_get xs (n + i)
get_drop zero xs i = ap (slice_get xs) (omega arith)
get_drop (suc n) [] i = refl
get_drop (suc n) (x ∷ xs) i =
    let more : suc (n + i) ≡ suc n + i = omega arith in
    get_drop n xs i ∙ ap (slice_get (x ∷ xs)) more

pub get_take : {A : Type 0} (n : ℕ) (xs : List A) (i : ℕ) → i < n → slice_get (take n xs) i ≡ slice_get xs i
get_take zero xs i h = absurd (omega (arith, h))
get_take (suc n) [] i h = refl
get_take (suc n) (x ∷ xs) zero h = refl
get_take (suc n) (x ∷ xs) (suc i) h = get_take n xs i (omega (arith, h))

-- at a place of the second of two lists
pub get_behind : {A : Type 0} (xs ys : List A) (n i : ℕ) → length xs ≡ n → n ≤ i → slice_get (xs ++ ys) i ≡ slice_get ys (i - n)
get_behind xs ys n i e h = ap (slice_get (xs ++ ys)) (omega (arith, e, h)) ∙ get_right xs ys (i - n)

pub on_err : {A B P Q : Type 0} (r : Result A B) → (P → Q) → OnErr r P → OnErr r Q
on_err (Ok a) f p = p
on_err (Err b) f p = f p
