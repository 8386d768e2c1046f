-- A part of a text, by the place at which it is.
use Rattle.std.proofs.Common.{◌≡◌, ℕ, zero, suc, ◌≤◌, List, [], ◌∷◌, length, take, drop, Bool, true, false, cond, Option, Some, None, is_some, refl, sym, ap, arith, length-drop, length-take}
use lib.Pointwise.{bytes_decides}
use Rattle.memchr.specs.Find.{OccursAt, FindsNeedle}
use Rattle.memchr.proofs.lemmas.MatchLemmas.{OccursAt-part, OccursAt-from_part}
use Rattle.values_semantics.specs.Membership.{begins, is_part}

module _ (part : List ℕ) where
  is_there : (b c : Bool) → c ≡ true → cond b true c ≡ true
  is_there true c h = refl
  is_there false c h = h

  -- what begins at a place is a part
  from_place : (whole : List ℕ) (k : ℕ) → begins part (drop k whole) ≡ true → is_part part whole ≡ true
  from_place [] zero h = h
  from_place [] (suc k) h = h
  from_place (c ∷ cs) zero h = ap (λ b. cond b true (is_part part cs)) h
  from_place (c ∷ cs) (suc k) h = is_there (begins part (c ∷ cs)) (is_part part cs) (from_place cs k h)

  -- a part begins at a place
  record Place (whole : List ℕ) : Type 0 where
    at : ℕ
    within : at ≤ length whole
    there : begins part (drop at whole) ≡ true

  by_first : (c : ℕ) (cs : List ℕ) (b : Bool) → begins part (c ∷ cs) ≡ b → cond b true (is_part part cs) ≡ true → (is_part part cs ≡ true → Place cs) → Place (c ∷ cs)
  by_first c cs true e h later = record { at = 0; within = omega arith; there = e }
  by_first c cs false e h later =
      let p = later h in
      record { at = suc p.at; within = omega (arith, p.within); there = p.there }

  to_place : (whole : List ℕ) → is_part part whole ≡ true → Place whole
  to_place [] h = record { at = 0; within = omega arith; there = h }
  to_place (c ∷ cs) h = by_first c cs (begins part (c ∷ cs)) refl h (to_place cs)

  occurs : (whole : List ℕ) (k : ℕ) → k ≤ length whole → begins part (drop k whole) ≡ true → OccursAt whole part k
  occurs whole k le h =
      let same : part ≡ take (length part) (drop k whole) = (bytes_decides part (take (length part) (drop k whole))).0 h in
      OccursAt-from_part whole part k (omega (arith, le, ap length same, length-take (length part) (drop k whole), length-drop k whole)) (sym same)

  pub part_found : (whole : List ℕ) (r : Option ℕ) → FindsNeedle whole part 0 r → is_some r ≡ is_part part whole
  part_found whole None h = by_answer (is_part part whole) refl
    where
      by_answer : (b : Bool) → is_part part whole ≡ b → false ≡ b
      by_answer false e = refl
      by_answer true e = let p = to_place whole e in absurd (h p.at (omega arith) (omega (arith, p.within)) (occurs whole p.at p.within p.there))
  part_found whole (Some k) h = sym (from_place whole k ((bytes_decides part (take (length part) (drop k whole))).1 (sym (OccursAt-part whole part k h.1))))
