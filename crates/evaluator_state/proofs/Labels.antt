-- The labels of files: one more, a file that is changed, and the first place of a label.
use Rattle.std.proofs.Common.{◌≡◌, ◌<◌, ◌+◌, ◌++◌, ℕ, zero, suc, Bool, true, false, cond, List, [], ◌∷◌, length, take, get_or, refl, ap, sym, subst, ◌∙◌, arith}
use Rattle.std.proofs.lemmas.Bool.Decides.{nat_tests}
use Rattle.std.proofs.lemmas.Option.{same_Some}
use Rattle.std.specs.Prelude.{slice_set, not, nat_lt, position, Some, None, Option, IfSome, IsSomeAnd}
use Rattle.std.specs.List.{position_or_len}
use Rattle.indexmap.specs.IndexSet.{IndexSet}
use Rattle.values_semantics.specs.Comparing.{same_text}
use Rattle.evaluator_semantics.specs.Names.{has_name}
use Rattle.evaluator_state.specs.declared.state.FileNames.{FileNames}
use Rattle.evaluator_state.specs.FileLabels.{labels_in, HasLabels}
use Rattle.evaluator_state.specs.Places.{FirstSo, FirstPlace, is_file}

one_more : (i : ℕ) → i + 1 ≡ suc i
one_more i = omega arith

one_before : (i : ℕ) → 1 + i ≡ suc i
one_before i = omega arith

labels_behind : (fs : List FileNames) (f : FileNames) → labels_in (fs ++ f ∷ []) ≡ labels_in fs ++ f.label ∷ []
labels_behind [] f = refl
labels_behind (g ∷ fs) f = ap (λ l. g.label ∷ l) (labels_behind fs f)

take_more : (fs : List FileNames) (i : ℕ) (d : FileNames) → i < length fs → labels_in (take (suc i) fs) ≡ labels_in (take i fs) ++ (get_or fs i d).label ∷ []
take_more [] i d lt = absurd (omega arith)
take_more (f ∷ fs) zero d lt = refl
take_more (f ∷ fs) (suc i) d lt = ap (λ l. f.label ∷ l) (take_more fs i d (omega arith))

-- the labels of one file more
pub labels_next : (fs : List FileNames) (i : ℕ) (d : FileNames) → i < length fs → labels_in (take (i + 1) fs) ≡ labels_in (take i fs) ++ (get_or fs i d).label ∷ []
labels_next fs i d lt = ap (λ n. labels_in (take n fs)) (one_more i) ∙ take_more fs i d lt

-- a file with other names
pub labels_stay : (fs : List FileNames) (i : ℕ) (f d : FileNames) → f.label ≡ (get_or fs i d).label → labels_in (slice_set fs i f) ≡ labels_in fs
labels_stay [] i f d e = refl
labels_stay (g ∷ gs) zero f d e = ap (λ x. x ∷ labels_in gs) e
labels_stay (g ∷ gs) (suc i) f d e = ap (λ l. g.label ∷ l) (labels_stay gs i f d e)

-- a set with one label more
pub labels_more : {S : Type 0} (fs : List FileNames) (f : FileNames) (now old : Option (IndexSet (List ℕ) S)) → HasLabels old fs
    → IfSome now (λ s. IsSomeAnd old (λ o. (has_name f.label o.keys ≡ false) × (s.keys ≡ o.keys ++ f.label ∷ []))) → HasLabels now (fs ++ f ∷ [])
labels_more fs f None old l h = λ x e. absurd cc
labels_more fs f (Some s) None l h = absurd h
labels_more {S} fs f (Some s) (Some o) l h = λ x e.
    let keys = h.1 ∙ ap (λ (l : List (List ℕ)). l ++ f.label ∷ []) (l o refl) ∙ sym (labels_behind fs f) in
    subst (λ (y : IndexSet (List ℕ) S). y.keys ≡ labels_in (fs ++ f ∷ [])) (same_Some s x e) keys

-- ---- the first place of a label among all labels

less_next : (a n : ℕ) → nat_lt (suc a) (suc n) ≡ nat_lt a n
less_next a n = grind (arith, nat_tests)

less_zero : (n : ℕ) → nat_lt 0 (suc n) ≡ true
less_zero n = grind (arith, nat_tests)

first_behind : (x : List ℕ) (f : FileNames) (fs : List FileNames) (a : ℕ) (t : Bool) → same_text x f.label ≡ false → FirstPlace (is_file x) fs (cond t (Some a) None) → FirstPlace (is_file x) (f ∷ fs) (cond t (Some (suc a)) None)
first_behind x f fs a true e h = record { within = omega (arith, h.within); before = (e, h.before); here = λ d. h.here d }
first_behind x f fs a false e h = (e, h)

first_step : (x : List ℕ) (f : FileNames) (fs : List FileNames) (b : Bool) (a : ℕ) → same_text x f.label ≡ b → FirstPlace (is_file x) fs (cond (nat_lt a (length (labels_in fs))) (Some a) None) → FirstPlace (is_file x) (f ∷ fs) (cond (nat_lt (cond (not b) (suc a) 0) (suc (length (labels_in fs)))) (Some (cond (not b) (suc a) 0)) None)
first_step x f fs true a e h =
    let here : FirstSo (is_file x) (f ∷ fs) 0 = record { within = omega arith; before = tt; here = λ d. e } in
    subst (λ t. FirstPlace (is_file x) (f ∷ fs) (cond t (Some 0) None)) (sym (less_zero (length (labels_in fs)))) here
first_step x f fs false a e h = subst (λ t. FirstPlace (is_file x) (f ∷ fs) (cond t (Some (suc a)) None)) (sym (less_next a (length (labels_in fs)))) (first_behind x f fs a (nat_lt a (length (labels_in fs))) e h)

pub first_label : (x : List ℕ) (fs : List FileNames) → FirstPlace (is_file x) fs (position (same_text x) (labels_in fs))
first_label x [] = tt
first_label x (f ∷ fs) =
    let n = length (labels_in fs) in
    let b = same_text x f.label in
    let a = position_or_len (same_text x) (labels_in fs) in
    subst (λ m. FirstPlace (is_file x) (f ∷ fs) (cond (nat_lt (cond (not b) m 0) (suc n)) (Some (cond (not b) m 0)) None)) (sym (one_before a)) (first_step x f fs b a refl (first_label x fs))
