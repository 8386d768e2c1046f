-- One value more of those whose copies are charged.
use Rattle.std.proofs.Common.{◌≡◌, ◌+◌, ℕ, zero, suc, List, [], ◌∷◌, take, ap, sym, ◌∙◌, add-one, arith}
use Rattle.std.specs.Prelude.{slice_get}
use Rattle.std.specs.List.{sum_by}
use Rattle.std.proofs.lemmas.List.Sums.{sum_by-cons}
use Rattle.values_semantics.specs.declared.val.Val.{Val}
use Rattle.values_semantics.specs.Heap.{Store}
use Rattle.evaluator_package_calls.specs.Charges.{member_bytes, found_bytes, list_members}

module _ (prefix : ℕ) (s : Store) where
  found_more : (xs : List Val) (i : ℕ) → sum_by (member_bytes prefix s) (take (suc i) xs) ≡ sum_by (member_bytes prefix s) (take i xs) + found_bytes prefix s (slice_get xs i)
  found_more [] zero = omega arith
  found_more [] (suc i) = omega arith
  found_more (x ∷ xs) zero = sum_by-cons (member_bytes prefix s) x [] ∙ omega arith
  found_more (x ∷ xs) (suc i) = sum_by-cons (member_bytes prefix s) x (take (suc i) xs) ∙ ap (λ n. member_bytes prefix s x + n) (found_more xs i) ∙ omega arith
      ∙ ap (λ n. n + found_bytes prefix s (slice_get xs i)) (sym (sum_by-cons (member_bytes prefix s) x (take i xs)))

  -- a member more of the list at a place, where the values did not change meanwhile
  pub member_more : (a i before held more : ℕ) (t : Store) → t ≡ s → held ≡ before + sum_by (member_bytes prefix s) (take i (list_members a s)) → more ≡ held + found_bytes prefix t (slice_get (list_members a t) i)
      → more ≡ before + sum_by (member_bytes prefix s) (take (i + 1) (list_members a s))
  member_more a i before held more t same so now =
      let here : more ≡ held + found_bytes prefix s (slice_get (list_members a s) i) = now ∙ ap (λ u. held + found_bytes prefix u (slice_get (list_members a u) i)) same in
      let next : sum_by (member_bytes prefix s) (take (i + 1) (list_members a s)) ≡ sum_by (member_bytes prefix s) (take i (list_members a s)) + found_bytes prefix s (slice_get (list_members a s) i) = ap (λ n. sum_by (member_bytes prefix s) (take n (list_members a s))) (add-one i) ∙ found_more (list_members a s) i in
      omega (arith, here, so, next)
