-- What is left at the places that were not looked at yet.
use Rattle.std.proofs.Common.{◌≡◌, ℕ, zero, suc, ◌+◌, ◌<◌, ◌≤◌, Bool, false, List, [], ◌∷◌, drop, length, set, get_or, get_or-set_other, get_or-set_same, refl, sym, ◌∙◌, ap, subst, arith}
use mathlib.Core.Option.{some, some-injective, some-ne-none}
use mathlib.Core.Logic.{dite}
use native.Mathlib.Decide.{ℕ_discrete}
use lib.ListN.{get_elem?}
use Rattle.board.specs.Rule.{total}
use Rattle.board.specs.Places.{HasRest}

total_drop_suc : {X : Type 0} (f : X → ℕ) (xs : List X) (p : ℕ) (x : X) → get_elem? xs p ≡ some x → total f (drop p xs) ≡ f x + total f (drop (suc p) xs)
total_drop_suc f [] p x e = absurd (some-ne-none x (sym e))
total_drop_suc f (y ∷ ys) zero x e = ap (λ z. f z + total f ys) (some-injective y x e)
total_drop_suc f (y ∷ ys) (suc p) x e = total_drop_suc f ys p x e

pub total_drop : {X : Type 0} (f : X → ℕ) (xs : List X) (p : ℕ) (x : X) → get_elem? xs p ≡ some x → total f (drop p xs) ≡ f x + total f (drop (p + 1) xs)
total_drop f xs p x e = let next : suc p ≡ p + 1 = omega arith in subst (λ (n : ℕ). total f (drop p xs) ≡ f x + total f (drop n xs)) next (total_drop_suc f xs p x e)

-- the slot of a place was taken
pub rest_after : (before after : List Bool) (place long : ℕ) → long ≡ length before → place < long → after ≡ set before place false → HasRest before place long → HasRest after (place + 1) long
rest_after before after place long size near is r = (
  (λ k d h. ap (λ (l : List Bool). get_or l k false) is ∙ (get_or-set_other before place k false false (λ e. omega (arith, e, d)) ∙ r.0 k (omega (arith, d)) h)),
  (λ k d. dite (ℕ_discrete k place)
      (λ e. ap (λ (l : List Bool). get_or l k false) is ∙ (ap (λ (z : ℕ). get_or (set before place false) z false) e ∙ get_or-set_same before place false false (omega (arith, near, size))))
      (λ ne. ap (λ (l : List Bool). get_or l k false) is ∙ (get_or-set_other before place k false false ne ∙ r.1 k (omega (arith, d, ne))))),
)
