-- Ints and strings in order.
use Rattle.std.proofs.Common.{◌≡◌, ℕ, Bool, true, false, cond, List, [], ◌∷◌, Option, Some, None, is_some, map, true≢false, refl, sym, ap, ◌∙◌}
use Rattle.std.specs.declared.cmp.Ordering.{Ordering}
use Rattle.std.specs.declared.cmp.Ordering.TheVariants.{Less, Equal, Greater}
use Rattle.std.specs.Ordering.{is_lt, is_gt, int_cmp, nat_cmp, ordering_reverse}
use denote.Ref.{Bor}
use denote.Param.Members.{Mut}
use Rattle.std.specs.Fn.{Called, ComparesAs}
use Rattle.std.specs.Cmp.{IsTotalOrder, IsStrictWeakOrder, int_cmp_total}
use Rattle.std.proofs.lemmas.Fn.{always_returns_same}
use Rattle.std.specs.Cmp.Lexicographic.{slice_cmp, nat_list_cmp_total}
use Rattle.std.specs.List.Sorted.{IsSortedByKey, IsStableByKey, IsSortedByClosure, IsStableByClosure}
use Rattle.std.proofs.lemmas.List.Sorted.{ranks_by}
use Rattle.values_semantics.specs.declared.val.Val.{Val}
use Rattle.values_semantics.specs.declared.val.Val.TheVariants as v
use Rattle.values_semantics.specs.Heap.{Store}
use Rattle.values_semantics.specs.Functions.{put_in, sort_from, plain_order, as_text, texts_order, is_int, all_so}
use Rattle.values_builtins.specs.Ranks.{int_of, bytes_of, text_or_empty, with_bytes}
use Rattle.values_builtins.proofs.Stable.{put, put_all, stable_is}

module _ {K : Type 0} (R : K → K → Ordering) (o : IsTotalOrder R) (key : Val → K) where
  abbrev by_key : Val → Val → Ordering
  by_key x y = R (key x) (key y)

  abbrev lt : Val → Val → Bool
  lt x y = is_lt (by_key x y)

  greater : (a : Ordering) → is_gt (ordering_reverse a) ≡ is_lt a
  greater Less = refl
  greater Equal = refl
  greater Greater = refl

  other_way : (x y : Val) → is_gt (by_key y x) ≡ lt x y
  other_way x y = ap is_gt (o.antisymm (key y) (key x)) ∙ greater (by_key x y)

  put_is : (x : Val) (ys : List Val) → put_in by_key x ys ≡ put lt x ys
  put_is x [] = refl
  put_is x (y ∷ ys) = rw (other_way x y, put_is x ys) refl

  sort_is : (done xs : List Val) → sort_from by_key done xs ≡ put_all lt done xs
  sort_is done [] = refl
  sort_is done (x ∷ xs) = ap (λ l. sort_from by_key l xs) (put_is x done) ∙ sort_is (put lt x done) xs

  sorted_by_key : (xs ys : List Val) → IsSortedByKey key R ys → IsStableByKey key R xs ys → ys ≡ sort_from by_key [] xs
  sorted_by_key xs ys up stable = stable_is lt (ranks_by o key) xs ys up stable ∙ sym (sort_is [] xs)

-- what both tests hold of
module _ (ok : Val → Bool) where
  both : (b c : Bool) → cond b c false ≡ true → (b ≡ true) × (c ≡ true)
  both true c h = (refl, h)
  both false c h = absurd (true≢false (sym h))

  kept : (f : Val → Val → Ordering) (x : Val) (ys : List Val) → ok x ≡ true → all_so ok ys ≡ true → all_so ok (put_in f x ys) ≡ true
  kept f x [] h a = rw h refl
  kept f x (y ∷ ys) h a = by (is_gt (f y x)) (both (ok y) (all_so ok ys) a) (λ m. kept f x ys h m)
    where
      by : (b : Bool) → (ok y ≡ true) × (all_so ok ys ≡ true) → (all_so ok ys ≡ true → all_so ok (put_in f x ys) ≡ true) → all_so ok (cond b (x ∷ y ∷ ys) (y ∷ put_in f x ys)) ≡ true
      by true e m = rw (h, e.0) e.1
      by false e m = rw e.0 (m e.1)

  module _ (f g : Val → Val → Ordering) (agree : (x y : Val) → ok x ≡ true → ok y ≡ true → f x y ≡ g x y) where
    put_alike : (x : Val) (ys : List Val) → ok x ≡ true → all_so ok ys ≡ true → put_in f x ys ≡ put_in g x ys
    put_alike x [] h a = refl
    put_alike x (y ∷ ys) h a = let e = both (ok y) (all_so ok ys) a in rw (agree y x e.0 h, put_alike x ys h e.1) refl

    sort_alike : (done xs : List Val) → all_so ok done ≡ true → all_so ok xs ≡ true → sort_from f done xs ≡ sort_from g done xs
    sort_alike done [] d a = refl
    sort_alike done (x ∷ xs) d a =
        let e = both (ok x) (all_so ok xs) a in
        ap (λ l. sort_from f l xs) (put_alike x done e.0 d) ∙ sort_alike (put_in g x done) xs (kept g x done e.0 d) e.1

ints_agree : (s : Store) (x y : Val) → is_int x ≡ true → is_int y ≡ true → plain_order s x y ≡ int_cmp (int_of x) (int_of y)
ints_agree s (v.Int a) (v.Int b) h g = refl
ints_agree s (v.Int a) y h g = absurd (true≢false (sym g))
ints_agree s x y h g = absurd (true≢false (sym h))

pub ints_sorted : (s : Store) (xs ys : List Val) → all_so is_int xs ≡ true → IsSortedByKey int_of int_cmp ys → IsStableByKey int_of int_cmp xs ys → ys ≡ sort_from (plain_order s) [] xs
ints_sorted s xs ys ints up stable = sorted_by_key int_cmp int_cmp_total int_of xs ys up stable ∙ sym (sort_alike is_int (plain_order s) _ (ints_agree s) [] xs refl ints)

abbrev is_text : Store → Val → Bool
is_text s x = is_some (as_text s x)

at_texts : (a b : Option (List ℕ)) → is_some a ≡ true → is_some b ≡ true → texts_order a b ≡ slice_cmp nat_cmp (text_or_empty a) (text_or_empty b)
at_texts None b h g = absurd (true≢false (sym h))
at_texts (Some a) None h g = absurd (true≢false (sym g))
at_texts (Some a) (Some b) h g = refl

texts_agree : (s : Store) (x y : Val) → is_text s x ≡ true → is_text s y ≡ true → plain_order s x y ≡ slice_cmp nat_cmp (bytes_of s x) (bytes_of s y)
texts_agree s (v.At a) y h g = at_texts (as_text s (v.At a)) (as_text s y) h g
texts_agree s x y h g = absurd (true≢false (sym h))

module _ (s : Store) where
  abbrev below : Val → Val → Bool
  below x y = is_lt (slice_cmp nat_cmp (bytes_of s x) (bytes_of s y))

  abbrev pairs_below : List ℕ × Val → List ℕ × Val → Bool
  pairs_below p q = is_lt (slice_cmp nat_cmp p.0 q.0)

  put_pairs : (x : Val) (ys : List Val) → put pairs_below (with_bytes s x) (map (with_bytes s) ys) ≡ map (with_bytes s) (put below x ys)
  put_pairs x [] = refl
  put_pairs x (y ∷ ys) = by (below x y) (put_pairs x ys)
    where
      by : (b : Bool) → put pairs_below (with_bytes s x) (map (with_bytes s) ys) ≡ map (with_bytes s) (put below x ys) → cond b (with_bytes s x ∷ with_bytes s y ∷ map (with_bytes s) ys) (with_bytes s y ∷ put pairs_below (with_bytes s x) (map (with_bytes s) ys)) ≡ map (with_bytes s) (cond b (x ∷ y ∷ ys) (y ∷ put below x ys))
      by true m = refl
      by false m = ap (λ l. with_bytes s y ∷ l) m

  put_all_pairs : (done xs : List Val) → put_all pairs_below (map (with_bytes s) done) (map (with_bytes s) xs) ≡ map (with_bytes s) (put_all below done xs)
  put_all_pairs done [] = refl
  put_all_pairs done (x ∷ xs) = ap (λ l. put_all pairs_below l (map (with_bytes s) xs)) (put_pairs x done) ∙ put_all_pairs (put below x done) xs

  without_bytes : (xs : List Val) → map (λ p. p.1) (map (with_bytes s) xs) ≡ xs
  without_bytes [] = refl
  without_bytes (x ∷ xs) = ap (λ l. x ∷ l) (without_bytes xs)

  texts_in_order : (xs : List Val) → all_so (λ x. is_some (as_text s x)) xs ≡ true → put_all below [] xs ≡ sort_from (plain_order s) [] xs
  texts_in_order xs texts = sym (sort_is (slice_cmp nat_cmp) nat_list_cmp_total (bytes_of s) [] xs) ∙ sym (sort_alike (λ x. is_some (as_text s x)) (plain_order s) _ (texts_agree s) [] xs refl texts)

-- from the clauses of a sort of values after their bytes, by a closure that compares the bytes
pub pairs_by_closure : {F : Type 0} {g : Mut F (Bor (List ℕ × Val) × (Bor (List ℕ × Val) × Unit {0})) Ordering} {f : F} (s : Store) (xs : List Val) (ps ys : List (List ℕ × Val)) → ps ≡ map (with_bytes s) xs → all_so (λ x. is_some (as_text s x)) xs ≡ true → IsSortedByClosure g f ys → IsStableByClosure g f ps ys → ((a : Bor (List ℕ × Val) × (Bor (List ℕ × Val) × Unit {0})) (r : Ordering) (f' : F) → Called g f a r f' → (r ≡ slice_cmp nat_cmp a.0.now.0 a.1.0.now.0) × (f' ≡ f)) → map (λ p. p.1) ys ≡ sort_from (plain_order s) [] xs
pairs_by_closure {g = g} {f = f} s xs ps ys is texts up stable called =
    let order : IsStrictWeakOrder (pairs_below s) = ranks_by nat_list_cmp_total (λ p. p.0) in
    let compares : ComparesAs g (pairs_below s) f = always_returns_same g (λ a r. is_lt r ≡ pairs_below s a.0.now a.1.0.now) f (λ a r f' k. (ap is_lt (called a r f' k).0, (called a r f' k).1)) in
    let sorted = stable_is (pairs_below s) order ps ys (up (pairs_below s) order compares) (stable (pairs_below s) order compares) in
    ap (map (λ p. p.1)) (sorted ∙ ap (put_all (pairs_below s) []) is ∙ put_all_pairs s [] xs) ∙ without_bytes s (put_all (below s) [] xs) ∙ texts_in_order s xs texts
