-- Places in lists.
use Rattle.std.proofs.Common.{◌≡◌, ◌⊎◌, inl, inr, List, [], ◌∷◌, ◌++◌, refl, sym, ◌∙◌, ap}

no_place : {X : Type 0} (before : List X) (x : X) (behind : List X) → [] ≡ before ++ x ∷ behind → ⊥
no_place [] x behind e = cc
no_place (y ∷ before) x behind e = cc

-- nothing is in an empty list
pub none_stands : {X : Type 0} (xs : List X) → xs ≡ [] → (before behind : List X) (x : X) → xs ≡ before ++ x ∷ behind → ⊥
none_stands xs q before behind x e = no_place before x behind (sym q ∙ e)

-- a place in two lists joined is one in the first or in the second
pub split_join : {X : Type 0} (xs ys before behind : List X) (x : X) → xs ++ ys ≡ before ++ x ∷ behind
    → ((rest : List X) × (behind ≡ rest ++ ys) × (xs ≡ before ++ x ∷ rest)) ⊎ ((more : List X) × (before ≡ xs ++ more) × (ys ≡ more ++ x ∷ behind))
split_join [] ys before behind x e = inr (before, refl, e)
split_join (z ∷ xs) ys [] behind x e = let p : z ≡ x = cc in let q : xs ++ ys ≡ behind = cc in inl (xs, sym q, ap (λ y. y ∷ xs) p)
split_join (z ∷ xs) ys (w ∷ before) behind x e =
    let p : z ≡ w = cc in
    let q : xs ++ ys ≡ before ++ x ∷ behind = cc in
    elim (split_join xs ys before behind x q) [
      | inl l ↦ inl (l.0, l.1, ap (λ y. y ∷ xs) p ∙ ap (λ ws. w ∷ ws) l.2)
      | inr r ↦ inr (r.0, ap (λ ws. w ∷ ws) r.1 ∙ ap (λ y. y ∷ xs ++ r.0) (sym p), r.2)
    ]

single : {X : Type 0} (y : X) (more : List X) (x : X) (behind : List X) → y ∷ [] ≡ more ++ x ∷ behind → (more ≡ []) × (y ≡ x) × (behind ≡ [])
single y [] x behind e = let p : y ≡ x = cc in let q : behind ≡ [] = cc in (refl, p, q)
single y (z ∷ []) x behind e = cc
single y (z ∷ w ∷ more) x behind e = cc

nil_join : {X : Type 0} (xs : List X) → xs ++ [] ≡ xs
nil_join [] = refl
nil_join (x ∷ xs) = ap (λ ws. x ∷ ws) (nil_join xs)

-- a place in a list with one more element is one before that, or the last
pub split_snoc : {X : Type 0} (xs : List X) (y : X) (before behind : List X) (x : X) → xs ++ y ∷ [] ≡ before ++ x ∷ behind
    → ((rest : List X) × (behind ≡ rest ++ y ∷ []) × (xs ≡ before ++ x ∷ rest)) ⊎ ((before ≡ xs) × (y ≡ x) × (behind ≡ []))
split_snoc xs y before behind x e = elim (split_join xs (y ∷ []) before behind x e) [
  | inl l ↦ inl l
  | inr r ↦ let s = single y r.0 x behind r.2 in inr (r.1 ∙ ap (λ zs. xs ++ zs) s.0 ∙ nil_join xs, s.1, s.2)
]
