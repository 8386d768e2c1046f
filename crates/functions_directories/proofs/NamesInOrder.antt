-- A name that is put into a set of names.
use Rattle.std.proofs.Common.{◌≡◌, ◌-◌, ◌+◌, ◌<◌, ◌≤◌, ℕ, zero, suc, Bool, true, List, [], ◌∷◌, length, drop, get_or, map, drop-cons, add-one, refl, ap, sym, ◌∙◌, arith}
use Rattle.std.specs.FinMap as finite
use Rattle.std.specs.FinMap.Entries.{by_order}
use Rattle.std.specs.Ordering.{nat_cmp, match_ordering, is_lt}
use Rattle.std.proofs.lemmas.Bool.{false≢true}
use Rattle.std.proofs.lemmas.List.{drop_all}
use Rattle.std.specs.declared.cmp.Ordering.{Ordering}
use Rattle.std.specs.declared.cmp.Ordering.TheVariants.{Less, Equal, Greater}
use Rattle.std.specs.Cmp.Lexicographic.{slice_cmp, nat_list_cmp_total}
use Rattle.std.specs.BTreeSet.{insert_key}
use Rattle.filetree.specs.Listings.{alone, sorted_names}

keys_put : (k : List ℕ) (v : ℕ) (es : List (List ℕ × ℕ)) → map (λ e. e.0) (finite.put (slice_cmp nat_cmp) k v es) ≡ insert_key (slice_cmp nat_cmp) (map (λ e. e.0) es) k
keys_put k v [] = refl
keys_put k v (e ∷ es) = go (slice_cmp nat_cmp k e.0) (keys_put k v es)
  where
    go : (o : Ordering) → map (λ e. e.0) (finite.put (slice_cmp nat_cmp) k v es) ≡ insert_key (slice_cmp nat_cmp) (map (λ e. e.0) es) k
        → map (λ e. e.0) (by_order o ((k, v) ∷ e ∷ es) ((e.0, v) ∷ es) (e ∷ finite.put (slice_cmp nat_cmp) k v es))
        ≡ match_ordering o (k ∷ e.0 ∷ map (λ e. e.0) es) (e.0 ∷ map (λ e. e.0) es) (e.0 ∷ insert_key (slice_cmp nat_cmp) (map (λ e. e.0) es) k)
    go Less h = refl
    go Equal h = refl
    go Greater h = ap (λ xs. e.0 ∷ xs) h

nothing : (es : List (List ℕ × ℕ)) → length es ≡ 0 → es ≡ []
nothing [] h = refl
nothing (e ∷ es) h = absurd (omega arith)

pub none_sorted : sorted_names [] ≡ []
none_sorted = ap (λ es. map (λ e. e.0) es) (nothing _ (sym (finite.len-entries (finite.empty {X = ℕ} {R = slice_cmp nat_cmp})) ∙ finite.len-empty (slice_cmp nat_cmp) ℕ))

pub inserted : (n : List ℕ) (ns : List (List ℕ)) → sorted_names (n ∷ ns) ≡ insert_key (slice_cmp nat_cmp) (sorted_names ns) n
inserted n ns =
    ap (λ fs. map (λ e. e.0) fs) (finite.entries-insert nat_list_cmp_total (finite.from_entries (map alone ns)) n 0)
    ∙ keys_put n 0 (finite.entries (finite.from_entries {R = slice_cmp nat_cmp} (map alone ns)))

get_or_any : {A : Type 0} (xs : List A) (i : ℕ) (d : A) → i < length xs → get_or xs i d ≡ get_or xs i (get_or xs i d)
get_or_any [] i d h = absurd (omega arith)
get_or_any (x ∷ xs) zero d h = refl
get_or_any (x ∷ xs) (suc i) d h = get_or_any xs i d (omega arith)

pub drop_item : {A : Type 0} (xs : List A) (i : ℕ) (x : A) → i < length xs → x ≡ get_or xs i x → drop i xs ≡ x ∷ drop (i + 1) xs
drop_item xs i x h e = rw add-one (drop-cons xs i x h) ∙ ap (λ z. z ∷ drop (i + 1) xs) (sym e)

-- one name more, from the last to the first
pub one_more : (names : List (List ℕ)) (i : ℕ) (x y : List ℕ) (before behind : List (List ℕ)) → 0 < i → i ≤ length names → x ≡ get_or names (i - 1) x → y ≡ x
    → before ≡ sorted_names (drop i names) → behind ≡ insert_key (slice_cmp nat_cmp) before y → behind ≡ sorted_names (drop (i - 1) names)
one_more names i x y before behind low within is same e h =
    let n : (i - 1) + 1 ≡ i = omega arith in
    let first : drop (i - 1) names ≡ x ∷ drop i names = drop_item names (i - 1) x (omega arith) is ∙ ap (λ k. x ∷ drop k names) n in
    h ∙ ap (λ z. insert_key (slice_cmp nat_cmp) before z) same ∙ ap (λ ks. insert_key (slice_cmp nat_cmp) ks x) e ∙ sym (inserted x (drop i names)) ∙ ap sorted_names (sym first)

less : (x y : List ℕ) (o : Ordering) → o ≡ slice_cmp nat_cmp x y → is_lt o ≡ true → (rest : List (List ℕ)) → insert_key (slice_cmp nat_cmp) (y ∷ rest) x ≡ x ∷ y ∷ rest
less x y Less is h rest = ap (λ o. match_ordering o (x ∷ y ∷ rest) (y ∷ rest) (y ∷ insert_key (slice_cmp nat_cmp) rest x)) (sym is)
less x y Equal is h rest = absurd (false≢true h)
less x y Greater is h rest = absurd (false≢true h)

-- names in order stay so with one below the first of them in front, and the last one is in order
pub next_in_order : (names : List (List ℕ)) (i : ℕ) (x y : List ℕ) (o : Ordering) (r : Bool) → i + 1 < length names → x ≡ get_or names i x → y ≡ get_or names (i + 1) y
    → o ≡ slice_cmp nat_cmp x y → r ≡ is_lt o → r ≡ true → sorted_names (drop (i + 1) names) ≡ drop (i + 1) names → sorted_names (drop i names) ≡ drop i names
next_in_order names i x y o r within first second is told below sorted =
    let here : drop i names ≡ x ∷ drop (i + 1) names = drop_item names i x (omega arith) first in
    let behind : drop (i + 1) names ≡ y ∷ drop ((i + 1) + 1) names = drop_item names (i + 1) y within second in
    ap sorted_names here ∙ inserted x (drop (i + 1) names) ∙ ap (λ ks. insert_key (slice_cmp nat_cmp) ks x) (sorted ∙ behind) ∙ less x y o is (sym told ∙ below) (drop ((i + 1) + 1) names)
    ∙ ap (λ ks. x ∷ ks) (sym behind) ∙ sym here

pub last_in_order : (names : List (List ℕ)) (i : ℕ) → i < length names → length names ≤ i + 1 → sorted_names (drop i names) ≡ drop i names
last_in_order names i within last =
    let x = get_or names i [] in
    let here : drop i names ≡ x ∷ drop (i + 1) names = drop_item names i x within (get_or_any names i [] within) in
    let none : drop (i + 1) names ≡ [] = drop_all (i + 1) names last in
    ap sorted_names here ∙ inserted x (drop (i + 1) names) ∙ ap (λ ks. insert_key (slice_cmp nat_cmp) ks x) (ap sorted_names none ∙ none_sorted) ∙ ap (λ ks. x ∷ ks) (sym none) ∙ sym here
