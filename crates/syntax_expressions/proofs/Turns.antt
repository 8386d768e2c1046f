-- A loop that counts its iterations up, with a recursion on the number of iterations that are left.
use Rattle.std.proofs.Common.{◌≡◌, ℕ, suc, ◌+◌, ◌-◌, ◌<◌, ◌≤◌, ap, ◌∙◌, arith}

pub in_turn : {X : Type 0} {x : X} (f : ℕ → X) (all at : ℕ) → at < all → x ≡ f (all - at) → x ≡ f (suc (all - (at + 1)))
in_turn f all at lt is = let e : all - at ≡ suc (all - (at + 1)) = omega arith in is ∙ ap f e

pub after_turns : {X : Type 0} {x : X} (f : ℕ → X) (all at : ℕ) → all ≤ at → x ≡ f (all - at) → x ≡ f 0
after_turns f all at le is = let e : all - at ≡ 0 = omega arith in is ∙ ap f e

pub one_level : {X : Type 0} (f : ℕ → X) (n : ℕ) → 0 < n → f n ≡ f (suc (n - 1))
one_level f n lt = let e : n ≡ suc (n - 1) = omega arith in ap f e
