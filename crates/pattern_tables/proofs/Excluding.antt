-- Excluded patterns, of which those without a star are in a set.
use Rattle.std.proofs.Common.{◌≡◌, ◌∙◌, ◌+◌, ◌<◌, ◌≤◌, ℕ, zero, suc, Bool, true, false, List, [], ◌∷◌, length, drop, get_or, drop-cons, map, ap, sym, refl, add-one, arith}
use Rattle.std.specs.Prelude.{◌||◌}
use Rattle.labels.specs.Paths.{segments}
use Rattle.pattern.specs.Patterns.{path_matches}
use Rattle.pattern.specs.Globs.{some_matches}

-- what is at an index, before what follows it
drop_item : {A : Type 0} → (xs : List A) (k : ℕ) (x : A) → k < length xs → x ≡ get_or xs k x → drop k xs ≡ x ∷ drop (k + 1) xs
drop_item xs k x h e = rw add-one (drop-cons xs k x h ∙ ap (λ y. y ∷ drop (suc k) xs) (sym e))

step : (old one rest now : Bool) → now ≡ old || (one || false) → now || rest ≡ old || (one || rest)
step true one rest now h = ap (λ x. x || rest) h
step false true rest now h = ap (λ x. x || rest) h
step false false rest now h = ap (λ x. x || rest) h

-- a pattern more is sorted
pub sorted_step : (patterns : List (List ℕ)) (i : ℕ) (p path : List ℕ) (old now : Bool) → i < length patterns → p ≡ get_or patterns i p → now ≡ old || some_matches (segments p ∷ []) path
    → now || some_matches (map segments (drop (i + 1) patterns)) path ≡ old || some_matches (map segments (drop i patterns)) path
sorted_step patterns i p path old now lt is h =
    step old (path_matches (segments p) (segments path)) (some_matches (map segments (drop (i + 1) patterns)) path) now h
    ∙ ap (λ ps. old || some_matches (map segments ps) path) (sym (drop_item patterns i p lt is))

none_left : (patterns : List (List ℕ)) (i : ℕ) → length patterns ≤ i → drop i patterns ≡ []
none_left [] zero le = refl
none_left [] (suc i) le = refl
none_left (p ∷ patterns) zero le = absurd (omega (arith, le))
none_left (p ∷ patterns) (suc i) le = none_left patterns i (omega (arith, le))

or_false : (t : Bool) → t || false ≡ t
or_false true = refl
or_false false = refl

-- all patterns are sorted
pub all_sorted : (patterns : List (List ℕ)) (i : ℕ) (path : List ℕ) (now : Bool) → length patterns ≤ i → now || some_matches (map segments (drop i patterns)) path ≡ some_matches (map segments patterns) path
    → now ≡ some_matches (map segments patterns) path
all_sorted patterns i path now le h = sym (ap (λ (ps : List (List ℕ)). now || some_matches (map segments ps) path) (none_left patterns i le) ∙ or_false now) ∙ h
