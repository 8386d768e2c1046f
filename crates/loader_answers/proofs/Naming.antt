-- Names, each once.
use Rattle.std.proofs.Common.{◌≡◌, ◌≢◌, ◌⊎◌, inl, inr, ℕ, Bool, true, false, ◌&&◌, ◌||◌, cond, List, [], ◌∷◌, ◌++◌, fold, refl, ap, sym, subst, ◌∙◌, arith, nat_eq}
use Rattle.std.proofs.lemmas.Bool.Decides.{nat_tests}
use Rattle.std.specs.List.{AllByRecursion}
use Rattle.engine_semantics.specs.Value.{In, first, after, AllDiffer}
use Rattle.shelf.specs.Lists.{same_text}
use Rattle.loader_answers.specs.Publishing.{has_name, AreEach, and_name, each_of}

both : (a b : Bool) → (a && b) ≡ true → (a ≡ true) × (b ≡ true)
both true true e = (refl, refl)
both true false e = absurd (cc e)
both false b e = absurd (cc e)

one_number : (x y : ℕ) → nat_eq x y ≡ true → x ≡ y
one_number x y e = grind (arith, nat_tests)

same_number : (x : ℕ) → nat_eq x x ≡ true
same_number x = grind (arith, nat_tests)

pub one_text : (a b : List ℕ) → same_text a b ≡ true → a ≡ b
one_text [] [] e = refl
one_text [] (y ∷ ys) e = absurd (cc e)
one_text (x ∷ xs) [] e = absurd (cc e)
one_text (x ∷ xs) (y ∷ ys) e =
    let parts = both (nat_eq x y) (same_text xs ys) e in
    cc (one_number x y parts.0, one_text xs ys parts.1)

pub text_is_same : (a : List ℕ) → same_text a a ≡ true
text_is_same [] = refl
text_is_same (x ∷ xs) = ap (λ b. b && same_text xs xs) (same_number x) ∙ text_is_same xs

either : (a b : Bool) → a || b ≡ true → (a ≡ true) ⊎ (b ≡ true)
either true b e = inl refl
either false b e = inr e

or_later : (a : Bool) → a || true ≡ true
or_later true = refl
or_later false = refl

pub name_in : (name : List ℕ) (names : List (List ℕ)) → has_name name names ≡ true → In name names
name_in name [] e = absurd (cc e)
name_in name (n ∷ ns) e =
    elim (either (same_text n name) (has_name name ns) e) [
      | inl here ↦ subst (λ m. In m (n ∷ ns)) (one_text n name here) first
      | inr later ↦ after (name_in name ns later)
    ]

pub has_in : (name : List ℕ) (names : List (List ℕ)) → In name names → has_name name names ≡ true
has_in name (n ∷ ns) first = ap (λ b. b || has_name name ns) (text_is_same name)
has_in name (n ∷ ns) (after i) = ap (λ b. same_text n name || b) (has_in name ns i) ∙ or_later (same_text n name)
has_in name [] i = elim i [ ]

pub in_left : {X : Type 0} (x : X) (xs ys : List X) → In x xs → In x (xs ++ ys)
in_left x (y ∷ xs) ys first = first
in_left x (y ∷ xs) ys (after i) = after (in_left x xs ys i)
in_left x [] ys i = elim i [ ]

in_last : (x : List ℕ) (xs : List (List ℕ)) → In x (xs ++ x ∷ [])
in_last x [] = first
in_last x (y ∷ xs) = after (in_last x xs)

pub in_more : {X : Type 0} (x y : X) (xs : List X) → In x (xs ++ y ∷ []) → In x xs ⊎ (x ≡ y)
in_more x y [] first = inr refl
in_more x y [] (after i) = elim i [ ]
in_more x y (z ∷ xs) first = inl first
in_more x y (z ∷ xs) (after i) = elim (in_more x y xs i) [ inl a ↦ inl (after a) | inr e ↦ inr e ]

apart_more : (x y : List ℕ) (xs : List (List ℕ)) → AllByRecursion (λ j. x ≢ j) xs → x ≢ y → AllByRecursion (λ j. x ≢ j) (xs ++ y ∷ [])
apart_more x y [] a d = (d, tt)
apart_more x y (z ∷ xs) a d = (a.0, apart_more x y xs a.1 d)

differ_more : (y : List ℕ) (xs : List (List ℕ)) → AllDiffer xs → ((x : List ℕ) → In x xs → x ≢ y) → AllDiffer (xs ++ y ∷ [])
differ_more y [] d f = (tt, tt)
differ_more y (x ∷ xs) d f = (apart_more x y xs d.0 (f x first), differ_more y xs d.1 (λ z i. f z (after i)))

-- one more name
keeps : (seen : List (List ℕ)) (name x : List ℕ) → In x seen → In x (and_name seen name)
keeps seen name x i = go (has_name name seen)
  where
    go : (b : Bool) → In x (cond b seen (seen ++ name ∷ []))
    go true = i
    go false = in_left x seen (name ∷ []) i

takes : (seen : List (List ℕ)) (name : List ℕ) → In name (and_name seen name)
takes seen name = go (has_name name seen) refl
  where
    go : (b : Bool) → has_name name seen ≡ b → In name (cond b seen (seen ++ name ∷ []))
    go true e = name_in name seen e
    go false e = in_last name seen

comes : (seen : List (List ℕ)) (name x : List ℕ) → In x (and_name seen name) → In x seen ⊎ (x ≡ name)
comes seen name x i = go (has_name name seen) i
  where
    go : (b : Bool) → In x (cond b seen (seen ++ name ∷ [])) → In x seen ⊎ (x ≡ name)
    go true i = inl i
    go false i = in_more x name seen i

differs : (seen : List (List ℕ)) (name : List ℕ) → AllDiffer seen → AllDiffer (and_name seen name)
differs seen name d = go (has_name name seen) refl
  where
    go : (b : Bool) → has_name name seen ≡ b → AllDiffer (cond b seen (seen ++ name ∷ []))
    go true e = d
    go false e = differ_more name seen d (λ x i same. let wrong : true ≡ false = sym (has_in name seen (subst (λ n. In n seen) same i)) ∙ e in absurd (cc wrong))

-- names after others
all_keep : (names seen : List (List ℕ)) (x : List ℕ) → In x seen → In x (fold and_name seen names)
all_keep [] seen x i = i
all_keep (n ∷ ns) seen x i = all_keep ns (and_name seen n) x (keeps seen n x i)

all_take : (names seen : List (List ℕ)) (x : List ℕ) → In x names → In x (fold and_name seen names)
all_take (n ∷ ns) seen x first = all_keep ns (and_name seen n) n (takes seen n)
all_take (n ∷ ns) seen x (after i) = all_take ns (and_name seen n) x i
all_take [] seen x i = elim i [ ]

all_come : (names seen : List (List ℕ)) (x : List ℕ) → In x (fold and_name seen names) → In x seen ⊎ In x names
all_come [] seen x i = inl i
all_come (n ∷ ns) seen x i =
    elim (all_come ns (and_name seen n) x i) [
      | inl a ↦ (elim (comes seen n x a) [ inl b ↦ inl b | inr e ↦ inr (subst (λ m. In m (n ∷ ns)) (sym e) first) ])
      | inr b ↦ inr (after b)
    ]

all_differ : (names seen : List (List ℕ)) → AllDiffer seen → AllDiffer (fold and_name seen names)
all_differ [] seen d = d
all_differ (n ∷ ns) seen d = all_differ ns (and_name seen n) (differs seen n d)

none_in : (x : List ℕ) → In x [] → ⊥
none_in x i = elim i [ ]

pub are_each : (names : List (List ℕ)) → AreEach names (each_of names)
are_each names = record {
  asked = λ name i. all_take names [] name i;
  no_other = λ name i. elim (all_come names [] name i) [ inl a ↦ absurd (none_in name a) | inr b ↦ b ];
  once = all_differ names [] tt;
}
