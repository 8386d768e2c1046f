-- The end of two lists that are gone along side by side.
use Rattle.std.proofs.Common.{◌≡◌, ◌≤◌, ◌++◌, ◌-◌, ℕ, zero, suc, List, [], ◌∷◌, length, take, drop, zip, arith, refl, ap, sym, ◌∙◌}
use Rattle.std.proofs.lemmas.List.{append-nil}

zip_nil : {A B : Type 0} → (a : List A) (b : List B) → b ≡ [] → zip a b ≡ []
zip_nil [] b e = refl
zip_nil (x ∷ a) [] e = refl
zip_nil (x ∷ a) (y ∷ b) e = cc

past : {A : Type 0} → (a : List A) (i : ℕ) → length a ≤ i → drop i a ≡ []
past [] zero h = refl
past [] (suc i) h = refl
past (x ∷ a) zero h = absurd (omega arith)
past (x ∷ a) (suc i) h = past a i (omega arith)

pub first_over : {A B : Type 0} → (done all : List (A × B)) (a : List A) (b : List B) (i : ℕ) → done ++ zip (drop i a) (drop i b) ≡ all → length a ≤ i → done ≡ all
first_over done all a b i e h = sym (append-nil done) ∙ sym (ap (λ l. done ++ zip l (drop i b)) (past a i h)) ∙ e

pub second_over : {A B : Type 0} → (done all : List (A × B)) (a : List A) (b : List B) (i : ℕ) → done ++ zip (drop i a) (drop i b) ≡ all → length b ≤ i → done ≡ all
second_over done all a b i e h = sym (append-nil done) ∙ sym (ap (λ l. done ++ l) (zip_nil (drop i a) (drop i b) (past b i h))) ∙ e

take_all : {A : Type 0} → (n : ℕ) (xs : List A) → n ≡ length xs → take n xs ≡ xs
take_all zero [] e = refl
take_all (suc n) [] e = refl
take_all zero (x ∷ xs) e = absurd (omega (arith, e))
take_all (suc n) (x ∷ xs) e = ap (λ l. x ∷ l) (take_all n xs (omega (arith, e)))

take_at : {A : Type 0} → (k : ℕ) (xs : List A) (n : ℕ) → n ≡ length xs - k → take n (drop k xs) ≡ drop k xs
take_at zero xs n e = take_all n xs (omega (arith, e))
take_at (suc k) [] n e = take_all n [] (omega (arith, e))
take_at (suc k) (x ∷ xs) n e = take_at k xs n (omega (arith, e))

-- what is left of a list, as a slice to its end
pub take_rest : {A : Type 0} → (k : ℕ) (xs : List A) → take (length xs - k) (drop k xs) ≡ drop k xs
take_rest k xs = take_at k xs (length xs - k) refl
