-- The hands of a pool, as they are hired.
use Rattle.std.proofs.Common.{◌≡◌, ℕ, ◌+◌, arith}
use Rattle.board.specs.declared.board.Hand.{Hand}
use Rattle.pool.specs.Crews.{SameCrew, SameOwn}
use Rattle.pool.specs.Serving.{made_in}
use Rattle.pool.specs.declared.workers.Workers.{Workers}
use Rattle.pool.specs.declared.host_state.Own.{Own}

pub crew_then : {R S : Type 0} (turns : R → ℕ) (a b c : Workers R S) → SameCrew turns a b → SameCrew turns b c → SameCrew turns a c
crew_then turns a b c x y = let s = x.sized in let t = y.sized in let u = x.counted in let v = y.counted in record { sized = omega (arith, s, t); counted = omega (arith, u, v) }

pub own_then : {R S : Type 0} (turns : R → ℕ) (a b c : Own R S) → SameOwn turns a b → SameOwn turns b c → SameOwn turns a c
own_then turns a b c x y = omega (arith, x, y)

-- the host's hand answered a job that it took back
pub own_counts : {R S : Type 0} (turns : R → ℕ) (a b : Own R S) (rules : R) (hand : Hand R S) → SameOwn turns a b → turns rules + made_in b.hand.seat.me.0.answers ≡ turns b.rules + made_in hand.seat.me.0.answers
    → turns rules + a.made + made_in a.hand.seat.me.0.answers ≡ turns a.rules + b.made + made_in hand.seat.me.0.answers
own_counts turns a b rules hand x y = omega (arith, x, y)
