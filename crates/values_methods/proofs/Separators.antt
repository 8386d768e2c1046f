-- The parts between separators, by the place of the first one.
use Rattle.std.proofs.Common.{◌≡◌, ℕ, zero, suc, ◌+◌, ◌-◌, ◌<◌, ◌≤◌, List, [], ◌∷◌, ◌++◌, length, take, drop, Bool, true, false, cond, Some, None, refl, sym, ap, ◌∙◌, append_assoc, arith, length-drop, length-take, inl, inr}
use Rattle.std.proofs.lemmas.List.{append-nil, take_rest, drop-drop}
use lib.Pointwise.{bytes_decides}
use Rattle.memchr.specs.Find.{OccursAt, FindsNeedle, Nowhere}
use Rattle.memchr.proofs.lemmas.FindLemmas.{Nowhere-more}
use Rattle.std.specs.Prelude.{◌⊎◌}
use Rattle.std.proofs.lemmas.Bool.{cases_lt, false≢true}
use Rattle.memchr.proofs.lemmas.MatchLemmas.{OccursAt-part, OccursAt-from_part}
use Rattle.values_semantics.specs.Membership.{begins}
use Rattle.values_semantics.specs.Methods.{parts, split_by}

module _ (sep : List ℕ) (some : 0 < length sep) where
  either : (b : Bool) (l m : List (List ℕ)) (p q : List (List ℕ)) → l ≡ m → p ≡ q → cond b l p ≡ cond b m q
  either true l m p q e f = e
  either false l m p q e f = f

  -- how many more steps there may be does not matter once they reach the end
  more_steps : (n m : ℕ) (done rest : List ℕ) → length rest ≤ n → length rest ≤ m → parts n sep done rest ≡ parts m sep done rest
  more_steps zero zero done rest h g = refl
  more_steps zero (suc m) done [] h g = ap (λ l. l ∷ []) (append-nil done)
  more_steps zero (suc m) done (c ∷ cs) h g = absurd (omega (arith, h))
  more_steps (suc n) zero done [] h g = ap (λ l. l ∷ []) (sym (append-nil done))
  more_steps (suc n) zero done (c ∷ cs) h g = absurd (omega (arith, g))
  more_steps (suc n) (suc m) done [] h g = refl
  more_steps (suc n) (suc m) done (c ∷ cs) h g =
      let rest = drop (length sep) (c ∷ cs) in
      let len = length-drop (length sep) (c ∷ cs) in
      either (begins sep (c ∷ cs)) _ _ _ _
      (ap (λ l. done ∷ l) (more_steps n m [] rest (omega (arith, len)) (omega (arith, len))))
      (more_steps n m (done ++ c ∷ []) cs (omega arith) (omega arith))

  -- a separator that begins at a place, and at none before it
  found_at : (k n : ℕ) (done rest : List ℕ) → length rest ≤ n → k + length sep ≤ length rest → begins sep (drop k rest) ≡ true → ((j : ℕ) → j < k → begins sep (drop j rest) ≡ false) → parts n sep done rest ≡ (done ++ take k rest) ∷ split_by sep (drop (length sep) (drop k rest))
  found_at k n done [] h fits there before = absurd (omega (arith, some, fits))
  found_at k zero done (c ∷ cs) h fits there before = absurd (omega (arith, h))
  found_at zero (suc n) done (c ∷ cs) h fits there before =
      let rest = drop (length sep) (c ∷ cs) in
      let len = length-drop (length sep) (c ∷ cs) in
      ap (λ b. cond b (done ∷ parts n sep [] rest) (parts n sep (done ++ c ∷ []) cs)) there
      ∙ (ap (λ l. done ∷ l) (more_steps n (length rest) [] rest (omega (arith, len)) (omega arith)) ∙ ap (λ l. l ∷ split_by sep rest) (sym (append-nil done)))
  found_at (suc k) (suc n) done (c ∷ cs) h fits there before =
      ap (λ b. cond b (done ∷ parts n sep [] (drop (length sep) (c ∷ cs))) (parts n sep (done ++ c ∷ []) cs)) (before 0 (omega arith))
      ∙ (found_at k n (done ++ c ∷ []) cs (omega arith) (omega arith) there (λ j lt. before (suc j) (omega arith)) ∙ ap (λ l. l ∷ split_by sep (drop (length sep) (drop k cs))) (append_assoc done (c ∷ []) (take k cs)))

  -- no separator
  found_none : (n : ℕ) (done rest : List ℕ) → ((j : ℕ) → j ≤ length rest → begins sep (drop j rest) ≡ false) → parts n sep done rest ≡ (done ++ rest) ∷ []
  found_none zero done rest none = refl
  found_none (suc n) done [] none = ap (λ l. l ∷ []) (sym (append-nil done))
  found_none (suc n) done (c ∷ cs) none =
      ap (λ b. cond b (done ∷ parts n sep [] (drop (length sep) (c ∷ cs))) (parts n sep (done ++ c ∷ []) cs)) (none 0 (omega arith))
      ∙ (found_none n (done ++ c ∷ []) cs (λ j le. none (suc j) (omega arith)) ∙ ap (λ l. l ∷ []) (append_assoc done (c ∷ []) cs))

  occurs : (whole : List ℕ) (k : ℕ) → k ≤ length whole → begins sep (drop k whole) ≡ true → OccursAt whole sep k
  occurs whole k le h =
      let same : sep ≡ take (length sep) (drop k whole) = (bytes_decides sep (take (length sep) (drop k whole))).0 h in
      OccursAt-from_part whole sep k (omega (arith, le, ap length same, length-take (length sep) (drop k whole), length-drop k whole)) (sym same)

  begins_there : (whole : List ℕ) (k : ℕ) → OccursAt whole sep k → begins sep (drop k whole) ≡ true
  begins_there whole k h = (bytes_decides sep (take (length sep) (drop k whole))).1 (sym (OccursAt-part whole sep k h))

  unless : (b : Bool) → (b ≡ true → ⊥) → b ≡ false
  unless true h = absurd (h refl)
  unless false h = refl

  pub split_found : (rest : List ℕ) (k : ℕ) → FindsNeedle rest sep 0 (Some k) → split_by sep rest ≡ take k rest ∷ split_by sep (drop (length sep) (drop k rest))
  split_found rest k h =
      let fits = h.1.fits in
      found_at k (length rest) [] rest (omega arith) (omega (arith, fits)) (begins_there rest k h.1)
      (λ j lt. unless _ (λ t. h.0.before j (omega arith) lt (occurs rest j (omega (arith, fits)) t)))

  pub split_over : (rest : List ℕ) → FindsNeedle rest sep 0 None → split_by sep rest ≡ rest ∷ []
  split_over rest h = found_none (length rest) [] rest (λ j le. unless _ (λ t. h j (omega arith) (omega arith) (occurs rest j le t)))

  -- an occurrence after the first n places is one of what follows them, and the other way round
  occurs_later : (rest : List ℕ) (n k : ℕ) → OccursAt (drop n rest) sep k → OccursAt rest sep (n + k)
  occurs_later rest n k h =
      let fits = h.fits in
      occurs rest (n + k) (omega (arith, some, fits, length-drop n rest)) (ap (begins sep) (sym (drop-drop k n rest)) ∙ begins_there (drop n rest) k h)

  occurs_after : (rest : List ℕ) (n k : ℕ) → n ≤ k → OccursAt rest sep k → OccursAt (drop n rest) sep (k - n)
  occurs_after rest n k le h =
      let fits = h.fits in
      let same : n + (k - n) ≡ k = omega arith in
      occurs (drop n rest) (k - n) (omega (arith, fits, length-drop n rest)) (ap (begins sep) (drop-drop (k - n) n rest ∙ ap (λ j. drop j rest) same) ∙ begins_there rest k h)

  -- the first occurrence is among the places that are tried
  pub near_found : (rest : List ℕ) (k : ℕ) → k < length rest → begins sep (drop k rest) ≡ true → Nowhere (OccursAt rest sep) 0 k → FindsNeedle rest sep 0 (Some k)
  near_found rest k lt h before = (record { low = omega arith; high = omega arith; before = before }, occurs rest k (omega arith) h)

  pub near_more : (rest : List ℕ) (k : ℕ) → begins sep (drop k rest) ≡ false → Nowhere (OccursAt rest sep) 0 k → Nowhere (OccursAt rest sep) 0 (k + 1)
  near_more rest k h before = Nowhere-more before (λ o. absurd (false≢true (sym h ∙ begins_there rest k o)))

  -- it is found in what follows them
  pub far_found : (rest : List ℕ) (n k : ℕ) → n ≤ length rest → Nowhere (OccursAt rest sep) 0 n → FindsNeedle (drop n rest) sep 0 (Some k) → FindsNeedle rest sep 0 (Some (n + k))
  far_found rest n k le before h =
      let high = h.0.high in
      (record { low = omega arith; high = omega (arith, high, length-drop n rest); before = λ j low lt o. by j low lt o (cases_lt j n) }, occurs_later rest n k h.1)
    where
      by : (j : ℕ) → 0 ≤ j → j < n + k → OccursAt rest sep j → (j < n) ⊎ (n ≤ j) → ⊥
      by j low lt o (inl near) = before j low near o
      by j low lt o (inr far) = h.0.before (j - n) (omega arith) (omega arith) (occurs_after rest n j far o)

  pub far_none : (rest : List ℕ) (n : ℕ) → n ≤ length rest → Nowhere (OccursAt rest sep) 0 n → FindsNeedle (drop n rest) sep 0 None → FindsNeedle rest sep 0 None
  far_none rest n le before h = λ j low lt o. by j low lt o (cases_lt j n)
    where
      by : (j : ℕ) → 0 ≤ j → j < length rest + 1 → OccursAt rest sep j → (j < n) ⊎ (n ≤ j) → ⊥
      by j low lt o (inl near) = before j low near o
      by j low lt o (inr far) = h (j - n) (omega arith) (omega (arith, length-drop n rest)) (occurs_after rest n j far o)

  -- a part is taken, and what follows its separator is left
  pub part_taken : (done more : List (List ℕ)) (whole rest part tail next : List ℕ) (k : ℕ) → done ++ split_by sep rest ≡ split_by sep whole → FindsNeedle rest sep 0 (Some k) → part ≡ take k rest → tail ≡ drop k rest → next ≡ take (length tail - length sep) (drop (length sep) tail) → more ≡ done ++ part ∷ [] → more ++ split_by sep next ≡ split_by sep whole
  part_taken done more whole rest part tail next k inv found p t n m =
      let left : next ≡ drop (length sep) (drop k rest) = n ∙ (take_rest tail (length sep) ∙ ap (drop (length sep)) t) in
      let now : more ≡ done ++ take k rest ∷ [] = m ∙ ap (λ l. done ++ l ∷ []) p in
      ap (λ l. l ++ split_by sep next) now
      ∙ (ap (λ l. (done ++ take k rest ∷ []) ++ split_by sep l) left
      ∙ (append_assoc done (take k rest ∷ []) (split_by sep (drop (length sep) (drop k rest)))
      ∙ (ap (λ l. done ++ l) (sym (split_found rest k found)) ∙ inv)))

  -- the last part is taken
  pub last_taken : (done more : List (List ℕ)) (whole rest : List ℕ) → done ++ split_by sep rest ≡ split_by sep whole → FindsNeedle rest sep 0 None → more ≡ done ++ rest ∷ [] → more ≡ split_by sep whole
  last_taken done more whole rest inv none m = m ∙ (ap (λ l. done ++ l) (sym (split_over rest none)) ∙ inv)
