-- In which order the host and the hands look at places.
use Rattle.std.specs.Prelude.{◌≡◌, ℕ, ◌+◌, ◌-◌, ◌*◌, ◌/◌, ◌<◌, cond, eqb, ltb, leb}

-- the place at which hand number h of this many begins: their places lie as far apart as they can
abbrev pub first_of : ℕ → ℕ → ℕ → ℕ
first_of n hands h = h * n / hands

-- the place of look number k of a hand at n places: it goes from its own first place on to the last, and then from 0 on
abbrev pub hand_order : ℕ → ℕ → ℕ → ℕ
hand_order n home k = cond (ltb k (n - home)) (home + k) (k - (n - home))

-- the place of look number k of the host for an empty one of n places: the place that it cleared last, and then the
-- others from 0 on
abbrev pub host_order : ℕ → ℕ → ℕ → ℕ
host_order n cleared k = cond (leb n cleared) k (cond (eqb k 0) cleared (cond (leb k cleared) (k - 1) k))

-- of n looks in this order exactly one is at each of the n places
abbrev pub IsEachOnce : ℕ → (ℕ → ℕ) → Type 0
IsEachOnce n order = (p : ℕ) → p < n → (k : ℕ) × (k < n) × (order k ≡ p) × ((j : ℕ) → j < n → order j ≡ p → j ≡ k)
