-- The rotation to the least element does not depend on where a cycle is entered.
use Rattle.std.proofs.Common.{◌≡◌, ◌≢◌, ℕ, Bool, true, false, cond, ◌&&◌, List, [], ◌∷◌, ◌++◌, Option, Some, None, refl, sym, ◌∙◌, ap, subst, append_assoc, append-nil}
use Rattle.std.specs.List.{AllByRecursion, filter_map, cons_option}
use Rattle.std.specs.declared.cmp.Ordering.{Ordering}
use Rattle.std.specs.declared.cmp.Ordering.TheVariants.{Less, Equal, Greater}
use Rattle.std.specs.Ordering.{nat_cmp, is_le, is_gt, ordering_reverse}
use Rattle.std.specs.Cmp.Lexicographic.{slice_cmp, nat_list_cmp_total}
use Rattle.std.proofs.lemmas.Cmp.{upto}
use Rattle.std.proofs.lemmas.List.Elements.{filter_map-append}
use Rattle.std.proofs.lemmas.Map.Lookups.{exact_bytes}
use Rattle.engine_semantics.specs.Value.{AllDiffer, In, first, after}
use Rattle.engine_semantics.specs.Rotation.{is_least, from_least, text_le, rotated, loop_labels}
use Rattle.engine_semantics.proofs.Loops.{differ_turned}

both : (a b : Bool) → a && b ≡ true → (a ≡ true) × (b ≡ true)
both true true e = (refl, refl)
both true false e = cc
both false b e = cc

and_true : {a b : Bool} → a ≡ true → b ≡ true → a && b ≡ true
and_true {a} {b} e f = ap (λ x. x && b) e ∙ f

module _ {X : Type 0} where
  -- the elements before one of a list whose elements differ are others
  others : (ps : List X) (m : X) (qs : List X) {a : X} → AllDiffer (ps ++ m ∷ qs) → In a ps → a ≢ m
  others [] m qs d i = elim i [ ]
  others (x ∷ ps) m qs d first = at_middle ps d.0
    where
      at_middle : (cs : List X) → AllByRecursion (λ j. x ≢ j) (cs ++ m ∷ qs) → x ≢ m
      at_middle [] n = n.0
      at_middle (c ∷ cs) n = at_middle cs n.1
  others (x ∷ ps) m qs d (after i) = others ps m qs d.1 i

  in_front : {a : X} {ps : List X} (qs : List X) → In a ps → In a (ps ++ qs)
  in_front qs first = first
  in_front qs (after i) = after (in_front qs i)

  in_middle : (ps : List X) (m : X) (qs : List X) → In m (ps ++ m ∷ qs)
  in_middle [] m qs = first
  in_middle (a ∷ ps) m qs = after (in_middle ps m qs)

  each_in : {P : X → Type 0} (xs : List X) → ((x : X) → In x xs → P x) → AllByRecursion P xs
  each_in [] f = tt
  each_in (x ∷ xs) f = (f x first, each_in xs (λ y i. f y (after i)))

module _ {X : Type 0} (le : X → X → Bool)
    (total : (x y : X) → le x y ≡ false → le y x ≡ true)
    (trans : (x y z : X) → le x y ≡ true → le y z ≡ true → le x z ≡ true)
    (exact : (x y : X) → le x y ≡ true → le y x ≡ true → x ≡ y) where
  to_itself : (x : X) → le x x ≡ true
  to_itself x = decide (le x x) refl
    where
      decide : (b : Bool) → le x x ≡ b → le x x ≡ true
      decide true e = e
      decide false e = total x x e

  least_at : {x y : X} {ys : List X} → In y ys → is_least le x ys ≡ true → le x y ≡ true
  least_at first l = (both _ _ l).0
  least_at (after i) l = least_at i (both _ _ l).1

  least_join : (x : X) (ys zs : List X) → is_least le x ys ≡ true → is_least le x zs ≡ true → is_least le x (ys ++ zs) ≡ true
  least_join x [] zs l m = m
  least_join x (y ∷ ys) zs l m = let h = both _ _ l in and_true h.0 (least_join x ys zs h.1 m)

  least_below : {x m : X} (ys : List X) → le x m ≡ true → is_least le m ys ≡ true → is_least le x ys ≡ true
  least_below [] e l = refl
  least_below (y ∷ ys) e l = let h = both _ _ l in and_true (trans _ _ _ e h.0) (least_below ys e h.1)

  -- a list that is not empty has a least element
  pub least_split : (x : X) (xs : List X) → (ps : List X) × (m : X) × (qs : List X) × (x ∷ xs ≡ ps ++ m ∷ qs) × (is_least le m (x ∷ xs) ≡ true)
  least_split x [] = ([], x, [], refl, and_true (to_itself x) refl)
  least_split x (y ∷ ys) = go (least_split y ys)
    where
      go : (ps : List X) × (m : X) × (qs : List X) × (y ∷ ys ≡ ps ++ m ∷ qs) × (is_least le m (y ∷ ys) ≡ true)
          → (ps : List X) × (m : X) × (qs : List X) × (x ∷ y ∷ ys ≡ ps ++ m ∷ qs) × (is_least le m (x ∷ y ∷ ys) ≡ true)
      go (ps, m, qs, e, l) = decide (le x m) refl
        where
          decide : (b : Bool) → le x m ≡ b → (ps : List X) × (m : X) × (qs : List X) × (x ∷ y ∷ ys ≡ ps ++ m ∷ qs) × (is_least le m (x ∷ y ∷ ys) ≡ true)
          decide true h = ([], x, y ∷ ys, refl, and_true (to_itself x) (least_below (y ∷ ys) h l))
          decide false h = (x ∷ ps, m, qs, ap (λ r. x ∷ r) e, and_true (total x m h) l)

  -- elements that are not least are passed
  passes : (all passed ps : List X) (m : X) (qs : List X) → is_least le m all ≡ true → AllByRecursion (λ a. is_least le a all ≡ false) ps → from_least le all passed (ps ++ m ∷ qs) ≡ m ∷ (qs ++ (passed ++ ps))
  passes all passed [] m qs l n = ap (λ c. cond c (m ∷ (qs ++ passed)) (from_least le all (passed ++ m ∷ []) qs)) l ∙ ap (λ r. m ∷ (qs ++ r)) (sym (append-nil passed))
  passes all passed (a ∷ ps) m qs l n =
      ap (λ c. cond c (a ∷ ((ps ++ m ∷ qs) ++ passed)) (from_least le all (passed ++ a ∷ []) (ps ++ m ∷ qs))) n.0
      ∙ passes all (passed ++ a ∷ []) ps m qs l n.1 ∙ ap (λ r. m ∷ (qs ++ r)) (append_assoc passed (a ∷ []) ps)

  -- the elements from the least on, and then those before it
  pub from_least_is : (ps : List X) (m : X) (qs : List X) → AllDiffer (ps ++ m ∷ qs) → is_least le m (ps ++ m ∷ qs) ≡ true → from_least le (ps ++ m ∷ qs) [] (ps ++ m ∷ qs) ≡ m ∷ (qs ++ ps)
  from_least_is ps m qs d l = passes (ps ++ m ∷ qs) [] ps m qs l (each_in ps not_least)
    where
      not_least : (a : X) → In a ps → is_least le a (ps ++ m ∷ qs) ≡ false
      not_least a i = decide (is_least le a (ps ++ m ∷ qs)) refl
        where
          decide : (b : Bool) → is_least le a (ps ++ m ∷ qs) ≡ b → is_least le a (ps ++ m ∷ qs) ≡ false
          decide true h = absurd (others ps m qs d i (exact a m (least_at (in_middle ps m qs) h) (least_at (in_front (m ∷ qs) i) l)))
          decide false h = h

  -- a cycle begun at its second member
  pub from_least_turned : (x : X) (xs : List X) → AllDiffer (x ∷ xs) → from_least le (x ∷ xs) [] (x ∷ xs) ≡ from_least le (xs ++ x ∷ []) [] (xs ++ x ∷ [])
  from_least_turned x xs d = let s = least_split x xs in go s.0 s.1 s.2 s.3 s.4
    where
      go : (ps : List X) (m : X) (qs : List X) → x ∷ xs ≡ ps ++ m ∷ qs → is_least le m (x ∷ xs) ≡ true → from_least le (x ∷ xs) [] (x ∷ xs) ≡ from_least le (xs ++ x ∷ []) [] (xs ++ x ∷ [])
      go [] m qs e l =
          let p : m ≡ x = cc in
          let k : is_least le x (x ∷ xs) ≡ true = subst (λ y. is_least le y (x ∷ xs) ≡ true) p l in
          let h = both _ _ k in
          from_least_is [] x xs d k ∙ ap (λ r. x ∷ r) (append-nil xs) ∙ sym (from_least_is xs x [] (differ_turned x xs d) (least_join x xs (x ∷ []) h.1 (and_true h.0 refl)))
      go (a ∷ ps) m qs e l =
          let p : a ≡ x = cc in
          let q : xs ≡ ps ++ m ∷ qs = cc in
          let h = both _ _ l in
          let r : xs ++ x ∷ [] ≡ ps ++ m ∷ (qs ++ x ∷ []) = ap (λ y. y ++ x ∷ []) q ∙ append_assoc ps (m ∷ qs) (x ∷ []) in
          let whole : x ∷ xs ≡ (x ∷ ps) ++ m ∷ qs = ap (λ y. x ∷ y) q in
          let left : from_least le (x ∷ xs) [] (x ∷ xs) ≡ m ∷ (qs ++ x ∷ ps) =
          subst (λ y. from_least le y [] y ≡ m ∷ (qs ++ x ∷ ps)) (sym whole) (from_least_is (x ∷ ps) m qs (subst AllDiffer whole d) (subst (λ y. is_least le m y ≡ true) whole l)) in
          let right : from_least le (xs ++ x ∷ []) [] (xs ++ x ∷ []) ≡ m ∷ ((qs ++ x ∷ []) ++ ps) =
          subst (λ y. from_least le y [] y ≡ m ∷ ((qs ++ x ∷ []) ++ ps)) (sym r)
          (from_least_is ps m (qs ++ x ∷ []) (subst AllDiffer r (differ_turned x xs d)) (subst (λ y. is_least le m y ≡ true) r (least_join m xs (x ∷ []) h.1 (and_true h.0 refl)))) in
          left ∙ ap (λ y. m ∷ y) (sym (append_assoc qs (x ∷ []) ps)) ∙ sym right

-- texts by bytes
text_total : (x y : List ℕ) → text_le x y ≡ false → text_le y x ≡ true
text_total x y e = go (slice_cmp nat_cmp x y) (slice_cmp nat_cmp y x) (nat_list_cmp_total.antisymm x y) e
  where
    go : (a b : Ordering) → a ≡ ordering_reverse b → is_le a ≡ false → is_le b ≡ true
    go a Less h e = refl
    go a Equal h e = refl
    go Less Greater h e = cc
    go Equal Greater h e = cc
    go Greater Greater h e = cc

not_after : (o : Ordering) → is_le o ≡ true → is_gt o ≡ false
not_after Less e = refl
not_after Equal e = refl
not_after Greater e = cc

not_greater : (o : Ordering) → is_gt o ≡ false → is_le o ≡ true
not_greater Less e = refl
not_greater Equal e = refl
not_greater Greater e = cc

text_trans : (x y z : List ℕ) → text_le x y ≡ true → text_le y z ≡ true → text_le x z ≡ true
text_trans x y z e f = not_greater _ (upto nat_list_cmp_total x y z (not_after _ e) (not_after _ f))

text_exact : (x y : List ℕ) → text_le x y ≡ true → text_le y x ≡ true → x ≡ y
text_exact x y e f = exact_bytes x y (go (slice_cmp nat_cmp x y) (slice_cmp nat_cmp y x) (nat_list_cmp_total.antisymm x y) e f)
  where
    go : (a b : Ordering) → a ≡ ordering_reverse b → is_le a ≡ true → is_le b ≡ true → a ≡ Equal
    go a Equal h e f = h
    go Equal b h e f = refl
    go Less Less h e f = cc
    go a Greater h e f = cc
    go Greater b h e f = cc

-- a first least text with those before it, each of them greater, and those after it
pub rotated_from : (before : List (List ℕ)) (least : List ℕ) (rest : List (List ℕ)) → is_least text_le least (before ++ least ∷ rest) ≡ true → AllByRecursion (λ a. text_le a least ≡ false) before
    → rotated (before ++ least ∷ rest) ≡ least ∷ (rest ++ before)
rotated_from before least rest l greater = passes text_le text_total text_trans text_exact (before ++ least ∷ rest) [] before least rest l (go before greater)
  where
    not_least : (a : List ℕ) → text_le a least ≡ false → is_least text_le a (before ++ least ∷ rest) ≡ false
    not_least a g = decide (is_least text_le a (before ++ least ∷ rest)) refl
      where
        decide : (b : Bool) → is_least text_le a (before ++ least ∷ rest) ≡ b → is_least text_le a (before ++ least ∷ rest) ≡ false
        decide false h = h
        decide true h = absurd (no (sym (least_at text_le text_total text_trans text_exact (in_middle before least rest) h) ∙ g))
          where
            no : true ≡ false → ⊥
            no e = cc

    go : (ps : List (List ℕ)) → AllByRecursion (λ a. text_le a least ≡ false) ps → AllByRecursion (λ a. is_least text_le a (before ++ least ∷ rest) ≡ false) ps
    go [] g = tt
    go (p ∷ ps) g = (not_least p g.0, go ps g.1)

-- a text that comes after those so far: the least stays
pub least_stays : (least : List ℕ) (seen : List (List ℕ)) (x : List ℕ) → is_least text_le least seen ≡ true → text_le least x ≡ true → is_least text_le least (seen ++ x ∷ []) ≡ true
least_stays least seen x l h = least_join text_le text_total text_trans text_exact least seen (x ∷ []) l (and_true h refl)

-- or it is the least from then on, and those so far are greater
pub least_moves : (least : List ℕ) (seen : List (List ℕ)) (x : List ℕ) → is_least text_le least seen ≡ true → text_le least x ≡ false → is_least text_le x (seen ++ x ∷ []) ≡ true
least_moves least seen x l h = least_join text_le text_total text_trans text_exact x seen (x ∷ [])
    (least_below text_le text_total text_trans text_exact seen (text_total least x h) l) (and_true (to_itself text_le text_total text_trans text_exact x) refl)

pub greater_than : (least : List ℕ) (seen : List (List ℕ)) (x : List ℕ) → is_least text_le least seen ≡ true → text_le least x ≡ false → AllByRecursion (λ a. text_le a x ≡ false) seen
greater_than least [] x l h = tt
greater_than least (a ∷ seen) x l h = let p = both (text_le least a) (is_least text_le least seen) l in (decide (text_le a x) refl p.0, greater_than least seen x p.1 h)
  where
    no : true ≡ false → ⊥
    no e = cc

    decide : (b : Bool) → text_le a x ≡ b → text_le least a ≡ true → text_le a x ≡ false
    decide false e f = e
    decide true e f = absurd (no (sym (text_trans least a x f e) ∙ h))

pub least_alone : (x : List ℕ) → is_least text_le x (x ∷ []) ≡ true
least_alone x = and_true (to_itself text_le text_total text_trans text_exact x) refl

pub rotated_turned : (x : List ℕ) (xs : List (List ℕ)) → AllDiffer (x ∷ xs) → rotated (x ∷ xs) ≡ rotated (xs ++ x ∷ [])
rotated_turned x xs d = from_least_turned text_le text_total text_trans text_exact x xs d

module _ {K : Type 0} (label_of : K → Option (List ℕ)) (injective : (j k : K) (t : List ℕ) → label_of j ≡ Some t → label_of k ≡ Some t → j ≡ k) where
  -- the labels of keys that differ
  label_apart : {j : K} {t : List ℕ} (keys : List K) → label_of j ≡ Some t → AllByRecursion (λ k. j ≢ k) keys → AllByRecursion (λ s. t ≢ s) (filter_map label_of keys)
  label_apart [] e d = tt
  label_apart {j} {t} (k ∷ keys) e d = go (label_of k) refl (label_apart keys e d.1)
    where
      go : (o : Option (List ℕ)) → label_of k ≡ o → AllByRecursion (λ s. t ≢ s) (filter_map label_of keys) → AllByRecursion (λ s. t ≢ s) (cons_option (label_of k) (filter_map label_of keys))
      go None h r = rw h r
      go (Some s) h r = rw h ((λ q. d.0 (injective j k s (e ∙ ap Some q) h)), r)

  labels_differ : (keys : List K) → AllDiffer keys → AllDiffer (filter_map label_of keys)
  labels_differ [] d = tt
  labels_differ (k ∷ keys) d = go (label_of k) refl (labels_differ keys d.1)
    where
      go : (o : Option (List ℕ)) → label_of k ≡ o → AllDiffer (filter_map label_of keys) → AllDiffer (cons_option (label_of k) (filter_map label_of keys))
      go None h r = rw h r
      go (Some s) h r = rw h (label_apart keys h d.0, r)

  -- the labels shown do not depend on where the cycle is entered
  pub loop_labels_turned : (k : K) (keys : List K) → AllDiffer (k ∷ keys) → loop_labels label_of (k ∷ keys) ≡ loop_labels label_of (keys ++ k ∷ [])
  loop_labels_turned k keys d = head (label_of k) (labels_differ (k ∷ keys) d) ∙ ap rotated (sym (filter_map-append label_of keys (k ∷ [])))
    where
      head : (o : Option (List ℕ)) → AllDiffer (cons_option o (filter_map label_of keys)) → rotated (cons_option o (filter_map label_of keys)) ≡ rotated (filter_map label_of keys ++ cons_option o [])
      head None r = ap rotated (sym (append-nil (filter_map label_of keys)))
      head (Some s) r = rotated_turned s (filter_map label_of keys) r
