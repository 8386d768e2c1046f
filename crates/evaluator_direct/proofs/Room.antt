-- How much more there may be behind several parts, one after another.
use Rattle.std.proofs.Common.{◌≡◌, ℕ, ◌+◌, ◌-◌, Bool, true, false, refl, ap, ◌∙◌, arith}
use Rattle.std.specs.Prelude.{◌&&◌, nat_lt}
use Rattle.std.proofs.lemmas.Bool.Decides.{nat_tests}
use Rattle.evaluator_direct.specs.Weight.{room}

grouped : (p q r : Bool) → ((p && q) && r) ≡ (p && (q && r))
grouped true q r = refl
grouped false q r = refl

-- a part behind another
pub behind : (p q : Bool) (l m n : ℕ) → room q n (room p m l) ≡ room (p && q) (m + n) l
behind true true l m n = omega arith
behind true false l m n = refl
behind false true l m n = omega arith
behind false false l m n = refl

-- what holds the parts has some more itself
pub one_more : (q : Bool) (l m w : ℕ) → room q m l - w ≡ room q (m + w) l
one_more true l m w = omega arith
one_more false l m w = omega arith

pub between : (p q : Bool) (l m n w : ℕ) → room q n (room p m l) - w ≡ room (p && q) (m + n + w) l
between p q l m n w = ap (λ k. k - w) (behind p q l m n) ∙ one_more (p && q) l (m + n) w

one_of_three : (p q r : Bool) (l m n k : ℕ) → room r k (room q n (room p m l)) ≡ room (p && (q && r)) (m + n + k) l
one_of_three p q r l m n k = ap (room r k) (behind p q l m n) ∙ (behind (p && q) r l (m + n) k ∙ ap (λ b. room b (m + n + k) l) (grouped p q r))

-- three parts
pub between_three : (p q r : Bool) (l m n k w : ℕ) → room r k (room q n (room p m l)) - w ≡ room (p && (q && r)) (m + n + k + w) l
between_three p q r l m n k w = ap (λ i. i - w) (one_of_three p q r l m n k) ∙ one_more (p && (q && r)) l (m + n + k) w

pub nothing_left : (q : Bool) (m : ℕ) → room q m 0 ≡ 0
nothing_left true m = omega arith
nothing_left false m = refl
