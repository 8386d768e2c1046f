-- Entries as pairs, and names that are given twice.
use Rattle.std.proofs.Common.{◌≡◌, ℕ, zero, suc, ◌+◌, ◌-◌, ◌<◌, ◌≤◌, Bool, true, false, cond, List, [], ◌∷◌, ◌++◌, length, drop, get_or, append_assoc, Some, None, refl, sym, ap, ◌∙◌, add-one, arith}
use Rattle.std.specs.Prelude.{slice_get}
use Rattle.std.proofs.lemmas.List.{append-nil}
use lib.Pointwise.{bytes_decides}
use Rattle.values_semantics.specs.declared.key.Part.{Part}
use Rattle.values_semantics.specs.declared.val.Val.{Val}
use Rattle.values_semantics.specs.declared.val.Entry.{Entry}
use Rattle.values_semantics.specs.Heap.{Entries}
use Rattle.values_semantics.specs.Comparing.{same_text}
use Rattle.values_semantics.specs.Functions.{KeywordArguments, is_named, is_twice}
use Rattle.values_builtins.specs.Results.{pairs_of}
use Rattle.values_builtins.proofs.Rows.{drop_item}

there : {A : Type 0} → (xs : List A) (i : ℕ) (x : A) → slice_get xs i ≡ Some x → drop i xs ≡ x ∷ drop (suc i) xs
there [] i x h = cc
there (y ∷ ys) zero x h = let e : y ≡ x = cc in ap (λ z. z ∷ ys) e
there (y ∷ ys) (suc i) x h = there ys i x h

past : {A : Type 0} → (xs : List A) (i : ℕ) → slice_get xs i ≡ None → drop i xs ≡ []
past [] zero h = refl
past [] (suc i) h = refl
past (y ∷ ys) zero h = cc
past (y ∷ ys) (suc i) h = past ys i h

past_all : {A : Type 0} → (xs : List A) → slice_get xs (length xs) ≡ None
past_all [] = refl
past_all (x ∷ xs) = past_all xs

-- what is known of an iteration of the loop, where `whole` are all pairs
module _ (es : Entries) (i : ℕ) (done whole : List (Val × Val)) (inv : done ++ pairs_of (drop i es) ≡ whole) where
  pub pairs_more : (k : List Part) (e : Entry) (more : List (Val × Val)) → Some (k, e) ≡ slice_get es i → more ≡ done ++ (e.key, e.value) ∷ [] → more ++ pairs_of (drop (i + 1) es) ≡ whole
  pairs_more k e more h g = rw (g, append_assoc, add-one) (rw (there es i (k, e) (sym h)) at inv)

  pub pairs_end : None ≡ slice_get es i → done ≡ whole
  pairs_end h = sym (append-nil done) ∙ rw (past es i (sym h)) at inv

  pub pairs_last : i ≡ length es → done ≡ whole
  pairs_last e = pairs_end (rw e (sym (past_all es)))

same_turned : (a b : List ℕ) → same_text a b ≡ same_text b a
same_turned a b = by (same_text a b) (same_text b a) refl refl
  where
    by : (p q : Bool) → same_text a b ≡ p → same_text b a ≡ q → p ≡ q
    by true true h g = refl
    by false false h g = refl
    by true false h g = sym ((bytes_decides b a).1 (sym ((bytes_decides a b).0 h))) ∙ g
    by false true h g = sym h ∙ (bytes_decides a b).1 (sym ((bytes_decides b a).0 g))

by_named : (b : Bool) (p : Bool) → p ≡ true → cond b true p ≡ true
by_named true p h = refl
by_named false p h = h

-- what occurs twice in a part occurs twice in the whole
twice_stays : (ns : KeywordArguments) (i : ℕ) → is_twice (drop i ns) ≡ true → is_twice ns ≡ true
twice_stays [] zero h = h
twice_stays [] (suc i) h = h
twice_stays (n ∷ ns) zero h = h
twice_stays (n ∷ ns) (suc i) h = by_named (is_named n.0 ns) (is_twice ns) (twice_stays ns i h)

-- what is known of an iteration of the loop, which goes from the last name to the first
module _ (ns : KeywordArguments) (i : ℕ) (n : List ℕ × Val) (low : 0 < i) (within : i ≤ length ns) (is : n ≡ get_or ns (i - 1) n) where
  before : drop (i - 1) ns ≡ n ∷ drop i ns
  before = let e : (i - 1) + 1 ≡ i = omega arith in rw e at (drop_item ns (i - 1) n (omega arith) is)

  pub given_again : is_named n.0 (drop i ns) ≡ true → is_twice ns ≡ true
  given_again h = twice_stays ns (i - 1) (rw (before, h) refl)

  pub still_once : is_named n.0 (drop i ns) ≡ false → is_twice (drop i ns) ≡ false → is_twice (drop (i - 1) ns) ≡ false
  still_once h once = rw (before, h) once

  pub seen_too : (q : List ℕ) (a b : Bool) → a ≡ cond (same_text n.0 q) true b → b ≡ is_named q (drop i ns) → a ≡ is_named q (drop (i - 1) ns)
  seen_too q a b e h = rw (before, e, h, same_turned n.0 q) refl
