-- What is iterated: in memory the iteration that began last is the last, and in the definitions the first.
use Rattle.std.proofs.Common.{◌≡◌, ℕ, Bool, List, [], ◌∷◌, ◌++◌, length, drop, Option, Some, None, refl, sym, ap, ◌∙◌, arith, append-nil}
use Rattle.std.specs.Prelude.{reverse}
use Rattle.std.specs.List.{list_any}
use Rattle.std.specs.Option.{option_to_list}
use Rattle.std.proofs.lemmas.List.{reverse-append}
use Rattle.std.proofs.lemmas.List.Sorted.{IsPermutation-reverse, list_any-IsPermutation}

pub iterated_alike : (test : ℕ → Bool) (places : List ℕ) → list_any test (reverse places) ≡ list_any test places
iterated_alike test places = sym (list_any-IsPermutation test places (reverse places) (IsPermutation-reverse places))

pub one_more : (place : ℕ) (places : List ℕ) → reverse (places ++ place ∷ []) ≡ place ∷ reverse places
one_more place places = reverse-append places (place ∷ [])

nothing : (places : List ℕ) → length places ≡ 0 → places ≡ []
nothing [] e = refl
nothing (x ∷ xs) e = absurd (omega (arith, e))

-- the last of the places is taken, if there is one
pub one_less : (places left : List ℕ) (taken : Option ℕ) → places ≡ left ++ option_to_list taken → (taken ≡ None → length places ≡ 0) → drop 1 (reverse places) ≡ reverse left
one_less places left (Some place) e h = ap (λ l. drop 1 (reverse l)) e ∙ ap (drop 1) (one_more place left)
one_less places left None e h =
    let none : places ≡ [] = nothing places (h refl) in
    let same : left ≡ [] = sym (append-nil left) ∙ sym e ∙ none in
    ap (λ l. drop 1 (reverse l)) none ∙ sym (ap reverse same)
