-- A place is found by the last range that begins there or before.
use Rattle.std.proofs.Common.{◌≡◌, ℕ, zero, suc, ◌+◌, ◌-◌, ◌<◌, ◌≤◌, cond, List, [], ◌∷◌, drop, Some, refl, sym, subst, ap, ◌∙◌, arith}
use Rattle.std.specs.Prelude.{nat_lt, slice_get}
use Rattle.std.proofs.lemmas.Bool.{le-ltb, lt-ltb}
use Rattle.values_heap.specs.declared.objects.Range.{Range}
use Rattle.values_heap.specs.Ranges.{InOrder, Begun, Where, among_own, among_lent, where_is}
use Rattle.values_objects.proofs.ListReads.{get_drop}

-- a range begins after the first own object
begins_behind : (rs : List Range) (f s n from l i : ℕ) (r : Range) → InOrder rs f s n from l → slice_get rs i ≡ Some r → f + s ≤ r.start
begins_behind [] f s n from l i r h is = cc
begins_behind (q ∷ rs) f s n from l zero r h is =
    let it : q ≡ r = cc in
    subst (λ (q : Range). f + s ≤ q.start) it h.0
begins_behind (q ∷ rs) f s n from l (suc i) r h is =
    let rest = begins_behind rs (q.start - s) q.through n from l i r h.4 is in
    omega (arith, rest, h.0, h.3)

-- in a range that begins at a place or before it, or after it
abbrev from_range : Range → List Range → ℕ → Where
from_range r rs p = cond (nat_lt p r.end) (among_lent r (p - r.start)) (where_is rs r.through p)

-- the ranges before it are passed
passed : (rs : List Range) (f s n from l p i : ℕ) (r : Range) → InOrder rs f s n from l → slice_get rs i ≡ Some r → r.start ≤ p → where_is rs s p ≡ from_range r (drop (suc i) rs) p
passed [] f s n from l p i r h is k = cc
passed (q ∷ rs) f s n from l p zero r h is k =
    let it : q ≡ r = cc in
    let begun : q.start ≤ p = subst (λ (q : Range). q.start ≤ p) (sym it) k in
    ap (λ b. cond b (among_own (p - s)) (from_range q rs p)) (le-ltb p q.start begun) ∙ ap (λ q. from_range q rs p) it
passed (q ∷ rs) f s n from l p (suc i) r h is k =
    let start = begins_behind rs (q.start - s) q.through n from l i r h.4 is in
    let begun : q.start ≤ p = omega (arith, start, k, h.0, h.3) in
    let ended : q.end ≤ p = omega (arith, start, k, h.0, h.2, h.3) in
    ap (λ b. cond b (among_own (p - s)) (from_range q rs p)) (le-ltb p q.start begun)
    ∙ ap (λ b. cond b (among_lent q (p - q.start)) (where_is rs q.through p)) (le-ltb p q.end ended)
    ∙ passed rs (q.start - s) q.through n from l p i r h.4 is k

-- before the first range an own object is
own_ahead : (rs : List Range) (s p : ℕ) → ((r : Range) → slice_get rs 0 ≡ Some r → p < r.start) → where_is rs s p ≡ among_own (p - s)
own_ahead [] s p h = refl
own_ahead (r ∷ rs) s p h = ap (λ b. cond b (among_own (p - s)) (from_range r rs p)) (lt-ltb p r.start (h r refl))

pub before_all : (rs : List Range) (p n : ℕ) → Begun rs p n → n ≡ 0 → where_is rs 0 p ≡ among_own p
before_all rs p n h e = own_ahead rs 0 p (λ r is. h.next r (ap (slice_get rs) e ∙ is)) ∙ ap among_own (omega arith)

found_last : (rs : List Range) (p n i number from l : ℕ) (r : Range) → InOrder rs 0 0 number from l → Begun rs p n → n ≡ suc i → slice_get rs i ≡ Some r → where_is rs 0 p ≡ cond (nat_lt p r.end) (among_lent r (p - r.start)) (among_own (p - r.through))
found_last rs p n i number from l r order h e is =
    let next : n ≡ suc i + 0 = omega (arith, e) in
    passed rs 0 0 number from l p i r order is (h.last i r e is)
    ∙ ap (cond (nat_lt p r.end) (among_lent r (p - r.start))) (own_ahead (drop (suc i) rs) r.through p (λ q there. h.next q (ap (slice_get rs) next ∙ sym (get_drop (suc i) rs 0) ∙ there)))

pub behind_last : (rs : List Range) (p n i number from l : ℕ) (r : Range) → InOrder rs 0 0 number from l → Begun rs p n → n ≡ suc i → slice_get rs i ≡ Some r → r.end ≤ p → where_is rs 0 p ≡ among_own (p - r.through)
behind_last rs p n i number from l r order h e is past =
    found_last rs p n i number from l r order h e is ∙ ap (λ b. cond b (among_lent r (p - r.start)) (among_own (p - r.through))) (le-ltb p r.end past)

pub in_last : (rs : List Range) (p n i number from l : ℕ) (r : Range) → InOrder rs 0 0 number from l → Begun rs p n → n ≡ suc i → slice_get rs i ≡ Some r → p < r.end → where_is rs 0 p ≡ among_lent r (p - r.start)
in_last rs p n i number from l r order h e is before =
    found_last rs p n i number from l r order h e is ∙ ap (λ b. cond b (among_lent r (p - r.start)) (among_own (p - r.through))) (lt-ltb p r.end before)
