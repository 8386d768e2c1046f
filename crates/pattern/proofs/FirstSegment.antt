-- The first segment of a text.
use Rattle.std.proofs.Common.{◌≡◌, ◌∙◌, ap, sym, refl, arith, ℕ, ◌+◌, Bool, true, false, cond, not, ◌==◌, List, [], ◌∷◌, length, Bor, Option, Some, None, ◌<◌}
use Rattle.std.specs.Option.{is_some}
use Rattle.std.proofs.lemmas.List.Splits.{slice_split_first}
use Rattle.std.specs.List.{onto_first, position_or_len, before_first, after_first}
use Rattle.labels.specs.Paths.{segments}
use Rattle.pattern.specs.Parts.{parts}
use Rattle.pattern.specs.Patterns.{path_matches}

pub one_segment : (text : List ℕ) → position_or_len (λ b. b == 47) text ≡ length text → segments text ≡ text ∷ []
one_segment [] h = refl
one_segment (b ∷ text) h =
    elim (b == 47) as (λ e. cond (not e) (1 + position_or_len (λ b. b == 47) text) 0 ≡ length (b ∷ text) → cond e ([] ∷ segments text) (onto_first b (segments text)) ≡ (b ∷ text) ∷ []) [
      | true ↦ λ g. absurd (omega (arith, g))
      | false ↦ λ g. ap (onto_first b) (one_segment text (omega (arith, g)))
    ] h

pub first_segment : (text : List ℕ) → (first : List ℕ) × (rest : List (List ℕ)) × (segments text ≡ first ∷ rest)
first_segment [] = ([], [], refl)
first_segment (b ∷ text) =
    let rest = first_segment text in
    elim (b == 47) as (λ e. (first : List ℕ) × (more : List (List ℕ)) × (cond e ([] ∷ segments text) (onto_first b (segments text)) ≡ first ∷ more)) [
      | true ↦ ([], segments text, refl)
      | false ↦ (b ∷ rest.0, rest.1, ap (onto_first b) rest.2)
    ]

pub more_segments : (text first rest : List ℕ) → position_or_len (λ b. b == 47) text < length text → first ≡ before_first (λ b. b == 47) text → rest ≡ after_first (λ b. b == 47) text
    → segments text ≡ first ∷ segments rest
more_segments text first rest found is_first is_rest =
    slice_split_first (λ b. b == 47) text 0 found ∙ ap (λ f. f ∷ segments (after_first (λ b. b == 47) text)) (sym is_first) ∙ ap (λ r. first ∷ segments r) (sym is_rest)

-- a text has a segment
pub some_part : (text : Bor (List ℕ)) → (first : List ℕ) × (rest : List (List ℕ)) × (parts (Some text) ≡ first ∷ rest)
some_part text = first_segment text.now

pub not_empty : (text : Bor (List ℕ)) → length (parts (Some text)) ≡ 0 → ⊥
not_empty text h = let one = ap length (some_part text).2 in omega (arith, one, h)

pub nothing_takes_no_text : (text : Bor (List ℕ)) → path_matches [] (parts (Some text)) ≡ false
nothing_takes_no_text text = ap (path_matches []) (some_part text).2

pub nothing_takes_nothing : (text : Option (Bor (List ℕ))) (none : Bool) → is_some text ≡ not none → none ≡ path_matches [] (parts text)
nothing_takes_nothing None true h = refl
nothing_takes_nothing None false h = cc
nothing_takes_nothing (Some text) true h = cc
nothing_takes_nothing (Some text) false h = sym (nothing_takes_no_text text)
