-- Lists in order, of which those that tie are as they was: there is one, and each member put in after those that are
-- not greater makes it.
use Rattle.std.proofs.Common.{◌≡◌, ℕ, suc, ◌<◌, ◌≤◌, Bool, true, false, not, ◌&&◌, cond, List, [], ◌∷◌, ◌++◌, length, get_or, append_assoc, true≢false, refl, sym, ap, ◌∙◌, arith}
use Rattle.std.specs.List.{filter}
use Rattle.std.specs.List.Sorted.{ties, IsSortedBy, IsStableBy}
use Rattle.std.specs.Cmp.{IsStrictWeakOrder}
use Rattle.std.proofs.lemmas.List.{append-nil}
use Rattle.std.proofs.lemmas.List.Elements.{filter-append}
use Rattle.std.proofs.lemmas.List.Sorted.{sorted_far}

not_so : (b : Bool) → (b ≡ true → ⊥) → b ≡ false
not_so true h = absurd (h refl)
not_so false h = refl

tails : {X : Type 0} → (b : Bool) (x : X) (l m : List X) → cond b (x ∷ l) l ≡ cond b (x ∷ m) m → l ≡ m
tails true x l m h = cc
tails false x l m h = h

module _ {X : Type 0} (lt : X → X → Bool) where
  -- no element is less than x
  abbrev pub NoneBelow : X → List X → Type 0
  NoneBelow x [] = Unit {0}
  NoneBelow x (y ∷ ys) = (lt y x ≡ false) × NoneBelow x ys

  abbrev pub Up : List X → Type 0
  Up [] = Unit {0}
  Up (x ∷ xs) = NoneBelow x xs × Up xs

  -- after those that are not greater
  abbrev pub put : X → List X → List X
  put x [] = x ∷ []
  put x (y ∷ ys) = cond (lt x y) (x ∷ y ∷ ys) (y ∷ put x ys)

  abbrev pub put_all : List X → List X → List X
  put_all done [] = done
  put_all done (x ∷ xs) = put_all (put x done) xs

  module _ (w : IsStrictWeakOrder lt) where
    itself : (x : X) → lt x x ≡ false
    itself x = not_so (lt x x) (λ t. true≢false (sym t ∙ w.one_way x x t))

    tied : (x y : X) → lt x y ≡ false → lt y x ≡ false → ties lt x y ≡ true
    tied x y a b = rw (a, b) refl

    -- what is not less than y does not tie with what is less
    apart : (z y v q : X) → lt z y ≡ true → lt v y ≡ false → lt z q ≡ false → ties lt q v ≡ false
    apart z y v q less there here = by (lt q v) (lt v q) refl
      where
        by : (a b : Bool) → lt q v ≡ a → not a && not b ≡ false
        by true b e = refl
        by false true e = refl
        by false false e = absurd (true≢false (sym less ∙ w.chain z v y (w.chain z q v here e) there))

    apart_all : (z y q : X) (ys : List X) → lt z y ≡ true → lt z q ≡ false → NoneBelow y ys → filter (ties lt q) ys ≡ []
    apart_all z y q [] less here none = refl
    apart_all z y q (v ∷ vs) less here none = rw (apart z y v q less none.0 here) (apart_all z y q vs less here none.1)

    -- what is less ties with none of these
    none_tie : (z y q : X) (ys : List X) → lt z y ≡ true → lt z q ≡ false → NoneBelow y ys → filter (ties lt q) (y ∷ ys) ≡ []
    none_tie z y q ys less here none = apart_all z y q (y ∷ ys) less here (itself y, none)

    shown : (x : X) (xs : List X) → filter (ties lt x) (x ∷ xs) ≡ x ∷ filter (ties lt x) xs
    shown x xs = rw (tied x x (itself x) (itself x)) refl

    -- the head of the one is not less than that of the other
    not_less : (y z : X) (ys zs : List X) → NoneBelow y ys → filter (ties lt z) (y ∷ ys) ≡ filter (ties lt z) (z ∷ zs) → lt z y ≡ false
    not_less y z ys zs none h = not_so (lt z y) (λ t. let e : [] ≡ z ∷ filter (ties lt z) zs = sym (none_tie z y z ys t (itself z) none) ∙ h ∙ shown z zs in cc)

    -- of two lists in order with the same ties there is one
    one_order : (ys zs : List X) → Up ys → Up zs → ((q : X) → filter (ties lt q) ys ≡ filter (ties lt q) zs) → ys ≡ zs
    one_order [] [] u v h = refl
    one_order [] (z ∷ zs) u v h = let e : [] ≡ z ∷ filter (ties lt z) zs = h z ∙ shown z zs in cc
    one_order (y ∷ ys) [] u v h = let e : y ∷ filter (ties lt y) ys ≡ [] = sym (shown y ys) ∙ h y in cc
    one_order (y ∷ ys) (z ∷ zs) u v h =
        let a : lt z y ≡ false = not_less y z ys zs u.0 (h z) in
        let b : lt y z ≡ false = not_less z y zs ys v.0 (sym (h y)) in
        let c : filter (ties lt y) (z ∷ zs) ≡ z ∷ filter (ties lt y) zs = rw (tied y z b a) refl in
        let d : y ∷ filter (ties lt y) ys ≡ z ∷ filter (ties lt y) zs = sym (shown y ys) ∙ h y ∙ c in
        let e : y ≡ z = cc in
        let f : ys ≡ zs = one_order ys zs u.1 v.1 (λ q. tails (ties lt q y) y (filter (ties lt q) ys) (filter (ties lt q) zs) (h q ∙ ap (λ x. cond (ties lt q x) (x ∷ filter (ties lt q) zs) (filter (ties lt q) zs)) (sym e))) in
        cc

    none_put : (y x : X) (ys : List X) → NoneBelow y ys → lt x y ≡ false → NoneBelow y (put x ys)
    none_put y x [] n h = (h, tt)
    none_put y x (z ∷ zs) n h = by (lt x z) (none_put y x zs n.1 h)
      where
        by : (b : Bool) → NoneBelow y (put x zs) → NoneBelow y (cond b (x ∷ z ∷ zs) (z ∷ put x zs))
        by true m = (h, n)
        by false m = (n.0, m)

    none_lower : (x y : X) (ys : List X) → lt x y ≡ true → NoneBelow y ys → NoneBelow x ys
    none_lower x y [] h n = tt
    none_lower x y (z ∷ zs) h n = (w.chain z y x n.0 (w.one_way x y h), none_lower x y zs h n.1)

    up_put : (x : X) (ys : List X) → Up ys → Up (put x ys)
    up_put x [] u = (tt, tt)
    up_put x (y ∷ ys) u = by (lt x y) refl (up_put x ys u.1)
      where
        by : (b : Bool) → lt x y ≡ b → Up (put x ys) → Up (cond b (x ∷ y ∷ ys) (y ∷ put x ys))
        by true e m = ((w.one_way x y e, none_lower x y ys e u.0), u)
        by false e m = (none_put y x ys u.0 e, m)

    -- what is put in is after what it ties with
    ties_put : (q x : X) (ys : List X) → Up ys → filter (ties lt q) (put x ys) ≡ filter (ties lt q) (ys ++ x ∷ [])
    ties_put q x [] u = refl
    ties_put q x (y ∷ ys) u = by (lt x y) refl (ties_put q x ys u.1)
      where
        ahead : lt x y ≡ true → (a b : Bool) → lt q x ≡ a → lt x q ≡ b → filter (ties lt q) (x ∷ y ∷ ys) ≡ filter (ties lt q) (y ∷ ys) ++ filter (ties lt q) (x ∷ [])
        ahead e true b f g = rw f (sym (append-nil (filter (ties lt q) (y ∷ ys))))
        ahead e false true f g = rw (f, g) (sym (append-nil (filter (ties lt q) (y ∷ ys))))
        ahead e false false f g = rw (f, g, none_tie x y q ys e g u.0) refl

        by : (b : Bool) → lt x y ≡ b → filter (ties lt q) (put x ys) ≡ filter (ties lt q) (ys ++ x ∷ []) → filter (ties lt q) (cond b (x ∷ y ∷ ys) (y ∷ put x ys)) ≡ filter (ties lt q) (y ∷ ys ++ x ∷ [])
        by true e m = ahead e (lt q x) (lt x q) refl refl ∙ sym (filter-append (ties lt q) (y ∷ ys) (x ∷ []))
        by false e m = ap (λ l. cond (ties lt q y) (y ∷ l) l) m

    up_put_all : (done xs : List X) → Up done → Up (put_all done xs)
    up_put_all done [] u = u
    up_put_all done (x ∷ xs) u = up_put_all (put x done) xs (up_put x done u)

    ties_put_all : (q : X) (done xs : List X) → Up done → filter (ties lt q) (put_all done xs) ≡ filter (ties lt q) (done ++ xs)
    ties_put_all q done [] u = rw append-nil refl
    ties_put_all q done (x ∷ xs) u =
        ties_put_all q (put x done) xs (up_put x done u)
        ∙ filter-append (ties lt q) (put x done) xs
        ∙ ap (λ l. l ++ filter (ties lt q) xs) (ties_put q x done u)
        ∙ sym (filter-append (ties lt q) (done ++ x ∷ []) xs)
        ∙ ap (filter (ties lt q)) (append_assoc done (x ∷ []) xs)

    none_from : (x : X) (ys : List X) → ((j : ℕ) (d : X) → j < length ys → lt (get_or ys j d) x ≡ false) → NoneBelow x ys
    none_from x [] h = tt
    none_from x (y ∷ ys) h = (h 0 y (omega arith), none_from x ys (λ j d l. h (suc j) d (omega arith)))

    up_from : (ys : List X) → ((i j : ℕ) (d : X) → i ≤ j → j < length ys → lt (get_or ys j d) (get_or ys i d) ≡ false) → Up ys
    up_from [] h = tt
    up_from (y ∷ ys) h = (none_from y ys (λ j d l. h 0 (suc j) d (omega arith) (omega arith)), up_from ys (λ i j d l m. h (suc i) (suc j) d (omega arith) (omega arith)))

    -- the one list in order in which those that tie are as they was
    pub stable_is : (xs ys : List X) → IsSortedBy lt ys → IsStableBy lt xs ys → ys ≡ put_all [] xs
    stable_is xs ys up stable = one_order ys (put_all [] xs) (up_from ys (sorted_far lt w ys up)) (up_put_all [] xs tt) (λ q. stable q ∙ sym (ties_put_all q [] xs tt))
