-- Sorted names go by what is in the list.
use Rattle.std.proofs.Common.{◌≡◌, ◌∙◌, ap, sym, refl, arith, ℕ, Bool, true, false, cond, ◌||◌, List, [], ◌∷◌, length, Option, Some, None, map as each}
use Rattle.std.specs.Prelude.{bytes_eq}
use Rattle.std.specs.FinMap as map
use Rattle.std.specs.FinMap.Entries.{by_order}
use Rattle.std.specs.List.{list_any}
use Rattle.std.specs.Ordering.{nat_cmp, eq_by_cmp}
use Rattle.std.specs.declared.cmp.Ordering.TheVariants.{Less, Equal, Greater}
use Rattle.std.specs.Cmp.Lexicographic.{slice_cmp, nat_list_cmp_total}
use Rattle.filetree.specs.Listings.{alone, sorted_names}
use Rattle.pattern.proofs.Members.{In, any_in, in_any, bool_same}

same_text : (x y : List ℕ) → slice_cmp nat_cmp x y ≡ Equal → x ≡ y
same_text = map.slice_cmp-IsAntisymmetric map.nat_cmp-IsAntisymmetric

or_swap : (a b c : Bool) → a || (b || c) ≡ b || (a || c)
or_swap true true c = refl
or_swap true false c = refl
or_swap false b c = refl

or_again : (a b : Bool) → a || b ≡ a || (a || b)
or_again true b = refl
or_again false b = refl

any_put : (p : List ℕ → Bool) (k : List ℕ) (v : ℕ) (es : List (List ℕ × ℕ)) → list_any p (each (λ e. e.0) (map.put (slice_cmp nat_cmp) k v es)) ≡ p k || list_any p (each (λ e. e.0) es)
any_put p k v [] = refl
any_put p k v (e ∷ es) =
    elim (slice_cmp nat_cmp k e.0) as (λ o. slice_cmp nat_cmp k e.0 ≡ o → list_any p (each (λ e. e.0) (by_order o ((k, v) ∷ e ∷ es) ((e.0, v) ∷ es) (e ∷ map.put (slice_cmp nat_cmp) k v es))) ≡ p k || (p e.0 || list_any p (each (λ e. e.0) es))) [
      | Less ↦ λ h. refl
      | Equal ↦ λ h. or_again (p e.0) _ ∙ ap (λ x. p x || (p e.0 || list_any p (each (λ e. e.0) es))) (sym (same_text k e.0 h))
      | Greater ↦ λ h. ap (λ b. p e.0 || b) (any_put p k v es) ∙ or_swap (p e.0) (p k) _
    ] refl

nothing : {X : Type 0} (es : List X) → length es ≡ 0 → es ≡ []
nothing [] h = refl
nothing (e ∷ es) h = absurd (omega arith)

no_entries : map.entries (map.empty {X = ℕ} {R = slice_cmp nat_cmp}) ≡ []
no_entries = nothing _ (sym (map.len-entries (map.empty {X = ℕ} {R = slice_cmp nat_cmp})) ∙ map.len-empty (slice_cmp nat_cmp) ℕ)

pub any_sorted : (p : List ℕ → Bool) (ns : List (List ℕ)) → list_any p (sorted_names ns) ≡ list_any p ns
any_sorted p [] = ap (λ es. list_any p (each (λ e. e.0) es)) no_entries
any_sorted p (n ∷ ns) =
    ap (λ fs. list_any p (each (λ e. e.0) fs)) (map.entries-insert nat_list_cmp_total (map.from_entries (each alone ns)) n 0)
    ∙ any_put p n 0 _ ∙ ap (λ b. p n || b) (any_sorted p ns)

abbrev found_alone : Bool → Option ℕ
found_alone b = cond b (Some 0) None

either_found : (a b : Bool) → cond a (Some 0) (found_alone b) ≡ found_alone (a || b)
either_found true b = refl
either_found false b = refl

zero_found : (es : List (List ℕ)) (q : List ℕ) → map.find (slice_cmp nat_cmp) q (each alone es) ≡ found_alone (list_any (eq_by_cmp (slice_cmp nat_cmp) q) es)
zero_found [] q = refl
zero_found (e ∷ es) q =
    let or_else : Option ℕ → Option ℕ = λ o. cond (eq_by_cmp (slice_cmp nat_cmp) q e) (Some 0) o in
    ap or_else (zero_found es q) ∙ either_found (eq_by_cmp (slice_cmp nat_cmp) q e) (list_any (eq_by_cmp (slice_cmp nat_cmp) q) es)

-- lists in which the same names are are sorted alike
pub sorted_same : (xs ys : List (List ℕ)) → ((x : List ℕ) → In x xs → In x ys) → ((x : List ℕ) → In x ys → In x xs) → sorted_names xs ≡ sorted_names ys
sorted_same xs ys to from =
    let same : (p : List ℕ → Bool) → list_any p xs ≡ list_any p ys = λ p. bool_same (list_any p xs) (list_any p ys)
    (λ h. let one = in_any p xs h in any_in p one.0 ys (to one.0 one.1) one.2)
    (λ h. let one = in_any p ys h in any_in p one.0 xs (from one.0 one.1) one.2) in
    ap map.keys (map.same_map nat_list_cmp_total same_text _ _ (λ q.
    map.get-from_entries nat_list_cmp_total (each alone xs) q ∙ zero_found xs q ∙ ap found_alone (same (eq_by_cmp (slice_cmp nat_cmp) q)) ∙ sym (zero_found ys q)
    ∙ sym (map.get-from_entries nat_list_cmp_total (each alone ys) q)))

pub in_sorted : (x : List ℕ) (xs : List (List ℕ)) → In x (sorted_names xs) → In x xs
in_sorted x xs h = sym (any_sorted (bytes_eq x) xs) ∙ h

pub sorted_in : (x : List ℕ) (xs : List (List ℕ)) → In x xs → In x (sorted_names xs)
sorted_in x xs h = any_sorted (bytes_eq x) xs ∙ h

pub no_names : sorted_names [] ≡ []
no_names = ap (λ es. each (λ e. e.0) es) no_entries
