-- The search for the first answer that is a file, and what a look-up comes to.
use Rattle.std.proofs.Common.{◌≡◌, ℕ, ◌+◌, ◌<◌, ◌≤◌, Bool, true, false, cond, List, [], ◌∷◌, length, drop, Some, None, refl, ◌∙◌, ap, arith, add-one, drop-cons, slice_index_or}
use Rattle.std.specs.Arc.{arc_value}
use Rattle.std.specs.declared.sync.Arc.{Arc}
use Rattle.std.specs.declared.alloc.Global.{Global}
use Rattle.std.proofs.lemmas.List.{drop_all, get_or-map, length-map}
use Rattle.keys.specs.Turns.{values}
use Rattle.keys.specs.declared.value.BuildName.{BuildName}
use Rattle.keys.specs.declared.value.Value.{Value}
use Rattle.functions_directories.specs.Lookups.{is_there, first_there}

-- the first name and its answer
at_first : (names : List BuildName) (answers : List Value) (name : BuildName) (answer : Value) (more : List BuildName) (rest : List Value) (t : Bool)
    → names ≡ name ∷ more → answers ≡ answer ∷ rest → is_there answer ≡ t → first_there names answers ≡ cond t (Some name) (first_there more rest)
at_first names answers name answer more rest t p q e = (λ i. first_there (p i) (q i)) ∙ ap (λ u. cond u (Some name) (first_there more rest)) e

module _ (names : List BuildName) (answers : List (Arc Value Global)) (i : ℕ) (d : BuildName) (e : Arc Value Global) where
  seen : (t : Bool) → i < length names → i < length answers → is_there (arc_value (slice_index_or answers i e)) ≡ t
      → first_there (drop i names) (drop i (values answers)) ≡ cond t (Some (slice_index_or names i d)) (first_there (drop (i + 1) names) (drop (i + 1) (values answers)))
  seen t h k w =
      let v : Value = arc_value e in
      let l : i < length (values answers) = omega (arith, length-map answers (λ (x : Arc Value Global). arc_value x)) in
      at_first (drop i names) (drop i (values answers)) (slice_index_or names i d) (slice_index_or (values answers) i v) (drop (i + 1) names) (drop (i + 1) (values answers)) t
      (rw add-one (drop-cons names i d h)) (rw add-one (drop-cons (values answers) i v l)) (ap is_there (get_or-map (λ (x : Arc Value Global). arc_value x) answers i e v k) ∙ w)

  pub passed : i < length names → i < length answers → is_there (arc_value (slice_index_or answers i e)) ≡ false → first_there (drop i names) (drop i (values answers)) ≡ first_there (drop (i + 1) names) (drop (i + 1) (values answers))
  passed = seen false

  pub found : i < length names → i < length answers → is_there (arc_value (slice_index_or answers i e)) ≡ true → first_there (drop i names) (drop i (values answers)) ≡ Some (slice_index_or names i d)
  found = seen true

-- no answer is left
none_left : (names : List BuildName) → first_there names [] ≡ None
none_left [] = refl
none_left (name ∷ names) = refl

pub past_answers : (names : List BuildName) (answers : List (Arc Value Global)) (i : ℕ) → length answers ≤ i → first_there (drop i names) (drop i (values answers)) ≡ None
past_answers names answers i h =
    ap (first_there (drop i names)) (drop_all i (values answers) (omega (arith, length-map answers (λ (x : Arc Value Global). arc_value x)))) ∙ none_left (drop i names)
