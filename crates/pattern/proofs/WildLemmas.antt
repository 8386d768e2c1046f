-- Pieces of a pattern, from one wild item to the next.
use Rattle.std.proofs.Common.{◌≡◌, ◌∙◌, ap, sym, refl, Bool, true, false, cond, ◌&&◌, ◌||◌, ◌⊎◌, List, [], ◌∷◌, length, inl, inr}
use Rattle.std.proofs.lemmas.Bool.{and_parts, or_cases, false≢true}
use Rattle.pattern.specs.Wild.{some_end, first_fits, wild_matches}
use Rattle.pattern.specs.Pieces.{PieceFits}

or_left : (a b : Bool) → a ≡ true → a || b ≡ true
or_left a b h = ap (λ x. x || b) h

or_right : (a b : Bool) → b ≡ true → a || b ≡ true
or_right true b h = refl
or_right false b h = h

pub end_now : {X : Type 0} (test : List X → Bool) (xs : List X) → test xs ≡ true → some_end test xs ≡ true
end_now test [] h = h
end_now test (x ∷ xs) h = or_left (test (x ∷ xs)) (some_end test xs) h

-- an end of an end is an end
again : (a b : Bool) → (a || b) || b ≡ a || b
again true b = refl
again false true = refl
again false false = refl

pub end_of_end : {X : Type 0} (test : List X → Bool) (xs : List X) → some_end (some_end test) xs ≡ some_end test xs
end_of_end test [] = refl
end_of_end test (x ∷ xs) = ap (λ b. (test (x ∷ xs) || some_end test xs) || b) (end_of_end test xs) ∙ again (test (x ∷ xs)) (some_end test xs)

-- what ends begin with a first item, the rest's ends have after it
pub end_behind : {X : Type 0} (fits : X → Bool) (test : List X → Bool) (xs : List X) → some_end (first_fits fits test) xs ≡ true → some_end test xs ≡ true
end_behind fits test [] h = absurd (false≢true h)
end_behind fits test (x ∷ xs) h =
    elim (or_cases (fits x && test xs) (some_end (first_fits fits test) xs) h) [
      | inl now ↦ or_right (test (x ∷ xs)) (some_end test xs) (end_now test xs (and_parts (fits x) (test xs) now).1)
      | inr later ↦ or_right (test (x ∷ xs)) (some_end test xs) (end_behind fits test xs later)
    ]

pub end_behind_first : {X : Type 0} (fits : X → Bool) (test : List X → Bool) (x : X) (xs : List X) → some_end (first_fits fits test) (x ∷ xs) ≡ true → some_end test xs ≡ true
end_behind_first fits test x xs h =
    elim (or_cases (fits x && test xs) (some_end (first_fits fits test) xs) h) [
      | inl now ↦ end_now test xs (and_parts (fits x) (test xs) now).1
      | inr later ↦ end_behind fits test xs later
    ]

-- one item of a piece
pub one_fits : {P X : Type 0} (w : P → Bool) (f : P → X → Bool) (p : P) (ps : List P) (x : X) (xs : List X) → w p ≡ false → f p x ≡ true
    → wild_matches w f (p ∷ ps) (x ∷ xs) ≡ wild_matches w f ps xs
one_fits w f p ps x xs plain fit =
    ap (λ b. cond b (some_end (wild_matches w f ps) (x ∷ xs)) (f p x && wild_matches w f ps xs)) plain ∙ ap (λ b. b && wild_matches w f ps xs) fit

pub one_later : {P X : Type 0} (w : P → Bool) (f : P → X → Bool) (p : P) (ps : List P) (x : X) (xs : List X) → w p ≡ false
    → some_end (wild_matches w f (p ∷ ps)) (x ∷ xs) ≡ true → some_end (wild_matches w f ps) xs ≡ true
one_later w f p ps x xs plain h =
    let same : wild_matches w f (p ∷ ps) ≡ first_fits (f p) (wild_matches w f ps) = λ i ys. ap (λ b. cond b (some_end (wild_matches w f ps) ys) (first_fits (f p) (wild_matches w f ps) ys)) plain i in
    end_behind_first (f p) (wild_matches w f ps) x xs (ap (λ g. some_end g (x ∷ xs)) (sym same) ∙ h)

-- a piece that was found, where it ends the pattern with the list or a wild item is next
pub found_here : {P X : Type 0} (w : P → Bool) (f : P → X → Bool) (ps rest : List P) (xs after : List X) → PieceFits w (wild_matches w f) ps xs rest after
    → (wild_matches w f rest after ≡ true) ⊎ (some_end (wild_matches w f rest) after ≡ wild_matches w f rest after)
    → some_end (wild_matches w f ps) xs ≡ wild_matches w f rest after
found_here w f ps rest xs after fits (inl done) = end_now (wild_matches w f ps) xs (fits.same ∙ done) ∙ sym done
found_here w f ps rest xs after fits (inr ends) =
    elim (some_end (wild_matches w f ps) xs) as (λ b. some_end (wild_matches w f ps) xs ≡ b → b ≡ wild_matches w f rest after) [
      | true ↦ λ e. sym (sym ends ∙ fits.later e)
      | false ↦ λ e.
          elim (wild_matches w f rest after) as (λ b. wild_matches w f rest after ≡ b → false ≡ b) [
            | true ↦ λ g. sym e ∙ end_now (wild_matches w f ps) xs (fits.same ∙ g)
            | false ↦ λ g. refl
          ] refl
    ] refl

-- where a wild item is next, an end of the list matches only where the list does
pub wild_next : {P X : Type 0} (w : P → Bool) (f : P → X → Bool) (p : P) (ps : List P) (xs : List X) → w p ≡ true
    → some_end (wild_matches w f (p ∷ ps)) xs ≡ wild_matches w f (p ∷ ps) xs
wild_next w f p ps xs wild =
    let same : wild_matches w f (p ∷ ps) ≡ some_end (wild_matches w f ps) = λ i ys. ap (λ b. cond b (some_end (wild_matches w f ps) ys) (first_fits (f p) (wild_matches w f ps) ys)) wild i in
    ap (λ g. some_end g xs) same ∙ end_of_end (wild_matches w f ps) xs ∙ ap (λ g. g xs) (sym same)

-- a step of a piece, where the item and the list are given by equations
pub step_same : {P X : Type 0} (w : P → Bool) (f : P → X → Bool) (qs ps : List P) (ys xs : List X) (p : P) (x : X) → qs ≡ p ∷ ps → ys ≡ x ∷ xs → w p ≡ false → f p x ≡ true
    → wild_matches w f qs ys ≡ wild_matches w f ps xs
step_same w f qs ps ys xs p x e g plain fit = ap (λ q. wild_matches w f q ys) e ∙ ap (wild_matches w f (p ∷ ps)) g ∙ one_fits w f p ps x xs plain fit

pub step_later : {P X : Type 0} (w : P → Bool) (f : P → X → Bool) (qs ps : List P) (ys xs : List X) (p : P) (x : X) → qs ≡ p ∷ ps → ys ≡ x ∷ xs → w p ≡ false
    → some_end (wild_matches w f qs) ys ≡ true → some_end (wild_matches w f ps) xs ≡ true
step_later w f qs ps ys xs p x e g plain h =
    one_later w f p ps x xs plain (sym (ap (λ q. some_end (wild_matches w f q) ys) e ∙ ap (some_end (wild_matches w f (p ∷ ps))) g) ∙ h)

pub found : {P X : Type 0} (w : P → Bool) (f : P → X → Bool) (ps rest : List P) (xs after : List X) → PieceFits w (wild_matches w f) ps xs rest after
    → (length rest ≡ 0 → after ≡ []) → some_end (wild_matches w f ps) xs ≡ wild_matches w f rest after
found w f ps [] xs after fits done = found_here w f ps [] xs after fits (inl (ap (wild_matches w f []) (done refl)))
found w f ps (r ∷ rest) xs after fits done = found_here w f ps (r ∷ rest) xs after fits (inr (wild_next w f r rest after fits.ended))
