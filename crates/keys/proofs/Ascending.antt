-- Names ascend where each is below the next.
use Rattle.std.proofs.Common.{◌≡◌, ◌∙◌, ap, sym, refl, subst, arith, ℕ, zero, suc, ◌+◌, ◌<◌, Bool, true, false, ◌&&◌, List, [], ◌∷◌, length, get_or}
use Rattle.std.specs.List.{list_all, AllAdjacentBelow, IsAllAdjacentAnswer}
use Rattle.std.specs.Ordering.{nat_cmp, is_lt}
use Rattle.std.specs.declared.cmp.Ordering.TheVariants.{Less}
use Rattle.std.specs.Cmp.Lexicographic.{slice_cmp, nat_list_cmp_total}
use Rattle.std.proofs.lemmas.Bool.{and_parts, and_from}
use Rattle.filetree.proofs.Order.{below}
use Rattle.keys.specs.Ascending.{ascend}

-- a name below another is below those after it
all_below : (n m : List ℕ) (names : List (List ℕ)) → slice_cmp nat_cmp n m ≡ Less → list_all (λ other. is_lt (slice_cmp nat_cmp m other)) names ≡ true → list_all (λ other. is_lt (slice_cmp nat_cmp n other)) names ≡ true
all_below n m [] h all = refl
all_below n m (k ∷ names) h all =
    let both = and_parts (is_lt (slice_cmp nat_cmp m k)) (list_all (λ other. is_lt (slice_cmp nat_cmp m other)) names) all in
    and_from (is_lt (slice_cmp nat_cmp n k)) (list_all (λ other. is_lt (slice_cmp nat_cmp n other)) names)
    (ap is_lt (nat_list_cmp_total.trans n m k h (below m k both.0))) (all_below n m names h both.1)

-- each below the next: each is below all after it
rises : (names : List (List ℕ)) → AllAdjacentBelow (λ x y. true ≡ is_lt (slice_cmp nat_cmp x y)) names (length names) → ascend names ≡ true
rises [] h = refl
rises (n ∷ []) h = refl
rises (n ∷ m ∷ names) h =
    let first : is_lt (slice_cmp nat_cmp n m) ≡ true = sym (h 0 [] (omega arith)) in
    let rest : ascend (m ∷ names) ≡ true = rises (m ∷ names) (λ k d low.
    let next : suc k + 1 ≡ suc (k + 1) = omega arith in
    subst (λ (j : ℕ). true ≡ is_lt (slice_cmp nat_cmp (get_or (m ∷ names) k d) (get_or (n ∷ m ∷ names) j d))) next (h (suc k) d (omega arith))) in
    let after = and_parts (list_all (λ other. is_lt (slice_cmp nat_cmp m other)) names) (ascend names) rest in
    and_from (list_all (λ other. is_lt (slice_cmp nat_cmp n other)) (m ∷ names)) (ascend (m ∷ names))
    (and_from (is_lt (slice_cmp nat_cmp n m)) (list_all (λ other. is_lt (slice_cmp nat_cmp n other)) names) first (all_below n m names (below n m first) after.0)) rest

none_passes : (b : Bool) → b && false ≡ false
none_passes true = refl
none_passes false = refl

-- some name is not below the next
falls : (names : List (List ℕ)) (k : ℕ) → k + 1 < length names → ((d : List ℕ) → false ≡ is_lt (slice_cmp nat_cmp (get_or names k d) (get_or names (k + 1) d))) → ascend names ≡ false
falls [] k within h = absurd (omega arith)
falls (n ∷ []) k within h = absurd (omega arith)
falls (n ∷ m ∷ names) zero within h =
    ap (λ b. (b && list_all (λ other. is_lt (slice_cmp nat_cmp n other)) names) && ascend (m ∷ names)) (sym (h []))
falls (n ∷ m ∷ names) (suc k) within h =
    let next : suc k + 1 ≡ suc (k + 1) = omega arith in
    let rest : ascend (m ∷ names) ≡ false = falls (m ∷ names) k (omega arith)
    (λ d. subst (λ (j : ℕ). false ≡ is_lt (slice_cmp nat_cmp (get_or (m ∷ names) k d) (get_or (n ∷ m ∷ names) j d))) next (h d)) in
    ap (λ b. list_all (λ other. is_lt (slice_cmp nat_cmp n other)) (m ∷ names) && b) rest
    ∙ none_passes (list_all (λ other. is_lt (slice_cmp nat_cmp n other)) (m ∷ names))

-- what a look at each name and the next answers
pub each_below_next : (names : List (List ℕ)) (r : Bool) → IsAllAdjacentAnswer (λ x y b. b ≡ is_lt (slice_cmp nat_cmp x y)) names r → r ≡ ascend names
each_below_next names true h = sym (rises names h)
each_below_next names false h = sym (falls names h.0 h.1 h.2)
