-- The ancestors of a path, from the longest down.
use Rattle.std.proofs.Common.{◌≡◌, ◌∙◌, ap, refl, arith, ℕ, suc, true, false, cond, eqb, ◌==◌, List, [], ◌∷◌, ◌++◌, take, drop, map as each}
use Rattle.std.proofs.lemmas.Bool.{ne_eqb}
use Rattle.std.proofs.lemmas.List.{map-append}
use Rattle.std.specs.Str.{NoCharPasses}
use Rattle.std.specs.Str.Pattern.{HasCharAt}
use Rattle.labels.specs.Labels.{ancestors}
use Rattle.labels.proofs.Cuts.{NoSlash, no_slash, split_last}

later : (b : ℕ) (text : List ℕ) → NoSlash (b ∷ text) → NoSlash text
later b text none = λ i below. none (suc i) (omega arith)

pub no_ancestors : (text : List ℕ) → NoSlash text → ancestors text ≡ []
no_ancestors [] none = refl
no_ancestors (b ∷ text) none =
    let here : (b == 47) ≡ false = ne_eqb b 47 (none 0 (omega arith)) in
    ap (λ e. cond e ([] ∷ each (λ d. b ∷ d) (ancestors text)) (each (λ d. b ∷ d) (ancestors text))) here
    ∙ ap (each (λ d. b ∷ d)) (no_ancestors text (later b text none))

pub longest_ancestor : (front last : List ℕ) → NoSlash last → ancestors (front ++ 47 ∷ last) ≡ ancestors front ++ front ∷ []
longest_ancestor [] last none = ap (λ a. [] ∷ each (λ d. 47 ∷ d) a) (no_ancestors last none)
longest_ancestor (b ∷ front) last none =
    let inner : each (λ d. b ∷ d) (ancestors (front ++ 47 ∷ last)) ≡ each (λ d. b ∷ d) (ancestors front) ++ (b ∷ front) ∷ [] =
    ap (each (λ d. b ∷ d)) (longest_ancestor front last none) ∙ map-append (λ d. b ∷ d) (ancestors front) (front ∷ []) in
    elim (b == 47) as (λ e. cond e ([] ∷ each (λ d. b ∷ d) (ancestors (front ++ 47 ∷ last))) (each (λ d. b ∷ d) (ancestors (front ++ 47 ∷ last)))
    ≡ cond e ([] ∷ each (λ d. b ∷ d) (ancestors front)) (each (λ d. b ∷ d) (ancestors front)) ++ (b ∷ front) ∷ []) [
      | true ↦ ap (λ a. [] ∷ a) inner
      | false ↦ inner
    ]

pub ancestors_by_last : (text : List ℕ) (i j : ℕ) → NoCharPasses (λ d. eqb d 47) (drop j text) × HasCharAt 47 text i j → ancestors text ≡ ancestors (take i text) ++ take i text ∷ []
ancestors_by_last text i j h = ap ancestors (split_last text i j h.1) ∙ longest_ancestor (take i text) (drop j text) (no_slash (drop j text) h.0)
