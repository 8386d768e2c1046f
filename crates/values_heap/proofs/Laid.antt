-- Objects that are in order: what is at a place, and what is changed by a write, by one object more and by a range.
use Rattle.std.proofs.Common.{◌≡◌, ℕ, ◌+◌, ◌-◌, ◌<◌, ◌≤◌, Bool, true, false, cond, List, [], ◌∷◌, ◌++◌, length, take, drop, set, map, Option, Some, None, refl, sym, ap, ◌∙◌, arith, append_assoc, append-nil}
use Rattle.std.specs.Prelude.{nat_lt, slice_get}
use Rattle.std.specs.Arc.{arc_value}
use Rattle.std.proofs.lemmas.Bool.{ltb-true, ltb-false, le-ltb}
use Rattle.std.proofs.lemmas.List.{length-append, length-take, length-drop, set-append_left, set-append_right, drop-set-lt, drop-set-add, take-set-le, drop-append-le, take-append-le, map-append, take-map, drop-map}
use Rattle.std.proofs.Math.Seq.{take-set-lt, take-length, drop-length}
use Rattle.values_semantics.specs.Indexing.{between}
use Rattle.values_heap.specs.declared.objects.Range.{Range}
use Rattle.values_objects.proofs.ListReads.{get_left, get_drop, get_take, get_behind}
use Rattle.values_heap.specs.Ranges.{laid_by, InOrder, among_own, among_lent, where_is, found_there, own_number}

-- ---- lists

-- what is between two numbers has this many members, where the list is long enough
between_length : {A : Type 0} (xs : List A) (a b : ℕ) → a ≤ b → b ≤ length xs → length (between xs a b) ≡ b - a
between_length xs a b h k = rw (length-take, length-drop) (omega (arith, h, k))

-- ---- ranges in order

-- the first own object is before the end of the last range
begin_before : (rs : List Range) (f s n from l : ℕ) → InOrder rs f s n from l → f + s ≤ from
begin_before [] f s n from l h = omega (arith, h.0)
begin_before (r ∷ rs) f s n from l h =
    let rest = begin_before rs (r.start - s) r.through n from l h.4 in
    omega (arith, rest, h.0, h.3)

pub order_more : (rs : List Range) (f s n m from l : ℕ) → n ≤ m → InOrder rs f s n from l → InOrder rs f s m from l
order_more [] f s n m from l k h = (h.0, h.1, omega (arith, h.2, k))
order_more (r ∷ rs) f s n m from l k h = (h.0, omega (arith, h.1, k), h.2, h.3, order_more rs (r.start - s) r.through n m from l k h.4)

pub order_lent : (rs : List Range) (r : Range) (f s n from l : ℕ) → InOrder rs f s n from l → r.start ≡ n + l → r.end ≡ r.start + length (arc_value r.objects) → r.through ≡ l + length (arc_value r.objects) → InOrder (rs ++ r ∷ []) f s n r.end r.through
order_lent [] r f s n from l h start end through = (omega (arith, start, h.1, h.2), omega (arith, start, h.1), end, omega (arith, through, h.1), (omega (arith, start, end, through, h.1), refl, omega (arith, start, h.1)))
order_lent (p ∷ rs) r f s n from l h start end through = (h.0, h.1, h.2, h.3, order_lent rs r (p.start - s) p.through n from l h.4 start end through)

-- after the last range only own objects are
pub where_last : (rs : List Range) (f s n from l p : ℕ) → InOrder rs f s n from l → from ≤ p → where_is rs s p ≡ among_own (p - l)
where_last [] f s n from l p h k = ap (λ m. among_own (p - m)) (sym h.1)
where_last (r ∷ rs) f s n from l p h k =
    let behind = begin_before rs (r.start - s) r.through n from l h.4 in
    let start : nat_lt p r.start ≡ false = le-ltb p r.start (omega (arith, behind, h.0, h.3, k)) in
    let end : nat_lt p r.end ≡ false = le-ltb p r.end (omega (arith, behind, h.0, h.2, h.3, k)) in
    rw (start, end) (where_last rs (r.start - s) r.through n from l p h.4 k)

-- ---- what is at a place

-- what a range gives has as many members as it has objects
abbrev pub IsAsLong : {A : Type 0} → (Range → List A) → Type 0
IsAsLong g = (r : Range) → length (g r) ≡ length (arc_value r.objects)

-- counted from the first own object
pub laid_at : {A : Type 0} (g : Range → List A) → IsAsLong g → (rs : List Range) (f s n from l : ℕ) (os : List A) → n ≡ length os → InOrder rs f s n from l → (q : ℕ) → slice_get (laid_by g rs f s os) q ≡ found_there g os (where_is rs s (f + s + q))
laid_at g same [] f s n from l os e h q = get_drop f os q ∙ ap (slice_get os) (omega arith)
laid_at {A = A} g same (r ∷ rs) f s n from l os e h q = first (laid_by g rs (r.start - s) r.through os) (laid_at g same rs (r.start - s) r.through n from l os e h.4) (nat_lt (f + s + q) r.start) refl
  where
    len : length (between os f (r.start - s)) ≡ r.start - s - f
    len = between_length os f (r.start - s) (omega (arith, h.0)) (omega (arith, h.0, h.1, e))

    second : (rest : List A) → ((q : ℕ) → slice_get rest q ≡ found_there g os (where_is rs r.through (r.start - s + r.through + q))) → r.start ≤ f + s + q → (b : Bool) → nat_lt (f + s + q) r.end ≡ b → slice_get (g r ++ rest) (q - (r.start - s - f)) ≡ found_there g os (cond b (among_lent r (f + s + q - r.start)) (where_is rs r.through (f + s + q)))
    second rest more k true t =
        let before : f + s + q < r.end = ltb-true (f + s + q) r.end t in
        get_left (g r) rest (q - (r.start - s - f)) (omega (arith, before, k, h.0, h.2, same r)) ∙ ap (slice_get (g r)) (omega (arith, k, h.0))
    second rest more k false t =
        let behind : r.end ≤ f + s + q = ltb-false (f + s + q) r.end t in
        get_behind (g r) rest (length (arc_value r.objects)) (q - (r.start - s - f)) (same r) (omega (arith, behind, h.0, h.2))
        ∙ more (q - (r.start - s - f) - length (arc_value r.objects))
        ∙ ap (λ p. found_there g os (where_is rs r.through p)) (omega (arith, behind, h.0, h.2, h.3))

    first : (rest : List A) → ((q : ℕ) → slice_get rest q ≡ found_there g os (where_is rs r.through (r.start - s + r.through + q))) → (b : Bool) → nat_lt (f + s + q) r.start ≡ b → slice_get (between os f (r.start - s) ++ (g r ++ rest)) q ≡ found_there g os (cond b (among_own (f + s + q - s)) (cond (nat_lt (f + s + q) r.end) (among_lent r (f + s + q - r.start)) (where_is rs r.through (f + s + q))))
    first rest more true t =
        let before : f + s + q < r.start = ltb-true (f + s + q) r.start t in
        get_left (between os f (r.start - s)) (g r ++ rest) q (omega (arith, before, len))
        ∙ get_take (r.start - s - f) (drop f os) q (omega (arith, before)) ∙ get_drop f os q ∙ ap (slice_get os) (omega arith)
    first rest more false t =
        let behind : r.start ≤ f + s + q = ltb-false (f + s + q) r.start t in
        get_behind (between os f (r.start - s)) (g r ++ rest) (r.start - s - f) q len (omega (arith, behind)) ∙ second rest more behind (nat_lt (f + s + q) r.end) refl

-- ---- a write

-- a write before the first own object is not seen
laid_blind : {A : Type 0} (g : Range → List A) (rs : List Range) (f s n from l : ℕ) (os : List A) (i : ℕ) (x : A) → InOrder rs f s n from l → i < f → laid_by g rs f s (set os i x) ≡ laid_by g rs f s os
laid_blind g [] f s n from l os i x h k = drop-set-lt f os i x k
laid_blind g (r ∷ rs) f s n from l os i x h k =
    ap (λ xs. take (r.start - s - f) xs ++ (g r ++ laid_by g rs (r.start - s) r.through (set os i x))) (drop-set-lt f os i x k)
    ∙ ap (λ xs. between os f (r.start - s) ++ (g r ++ xs)) (laid_blind g rs (r.start - s) r.through n from l os i x h.4 (omega (arith, h.0, k)))

abbrev some_number : Option ℕ → ℕ
some_number (Some i) = i
some_number None = 0

number : {i j : ℕ} → Some i ≡ Some j → i ≡ j
number e = ap some_number e

no_number : {i : ℕ} {X : Type 0} → None ≡ Some i → X
no_number e = cc

-- an own object that is at a place from the first on is none before it
own_from : (rs : List Range) (f s n from l p i : ℕ) → InOrder rs f s n from l → f + s ≤ p → own_number (where_is rs s p) ≡ Some i → f ≤ i
own_from [] f s n from l p i h k w = omega (arith, k, number w)
own_from (r ∷ rs) f s n from l p i h k w = first (own_from rs (r.start - s) r.through n from l p i h.4) (nat_lt p r.start) refl w
  where
    second : (r.start - s + r.through ≤ p → own_number (where_is rs r.through p) ≡ Some i → r.start - s ≤ i) → r.start ≤ p → (b : Bool) → nat_lt p r.end ≡ b → own_number (cond b (among_lent r (p - r.start)) (where_is rs r.through p)) ≡ Some i → f ≤ i
    second more past true t w = no_number w
    second more past false t w =
        let behind : r.end ≤ p = ltb-false p r.end t in
        let rest : r.start - s ≤ i = more (omega (arith, behind, h.0, h.2, h.3)) w in
        omega (arith, rest, h.0)

    first : (r.start - s + r.through ≤ p → own_number (where_is rs r.through p) ≡ Some i → r.start - s ≤ i) → (b : Bool) → nat_lt p r.start ≡ b → own_number (cond b (among_own (p - s)) (cond (nat_lt p r.end) (among_lent r (p - r.start)) (where_is rs r.through p))) ≡ Some i → f ≤ i
    first more true t w = omega (arith, k, number w)
    first more false t w = second more (ltb-false p r.start t) (nat_lt p r.end) refl w

-- a write after a part is not seen in it
between_blind : {A : Type 0} (os : List A) (a b i : ℕ) (x : A) → a ≤ b → b ≤ i → between (set os i x) a b ≡ between os a b
between_blind os a b i x h k =
    ap (λ j. take (b - a) (drop a (set os j x))) (omega (arith, h, k)) ∙ ap (take (b - a)) (drop-set-add a os (i - a) x) ∙ take-set-le (b - a) (drop a os) (i - a) x (omega (arith, h, k))

-- a write in a part
between_set : {A : Type 0} (os : List A) (a b q : ℕ) (x : A) → q < b - a → between (set os (a + q) x) a b ≡ set (between os a b) q x
between_set os a b q x h = ap (take (b - a)) (drop-set-add a os q x) ∙ take-set-lt (b - a) (drop a os) q x h

-- a write of an own object is a write where it is
pub laid_set : {A : Type 0} (g : Range → List A) → IsAsLong g → (rs : List Range) (f s n from l : ℕ) (os : List A) → n ≡ length os → InOrder rs f s n from l → (q i : ℕ) (x : A) → own_number (where_is rs s (f + s + q)) ≡ Some i → laid_by g rs f s (set os i x) ≡ set (laid_by g rs f s os) q x
laid_set g same [] f s n from l os e h q i x w = ap (λ j. drop f (set os j x)) (omega (arith, number w)) ∙ drop-set-add f os q x
laid_set {A = A} g same (r ∷ rs) f s n from l os e h q i x w = first (λ p. laid_set g same rs (r.start - s) r.through n from l os e h.4 p i x) (nat_lt (f + s + q) r.start) refl w
  where
    len : length (between os f (r.start - s)) ≡ r.start - s - f
    len = between_length os f (r.start - s) (omega (arith, h.0)) (omega (arith, h.0, h.1, e))

    second : ((p : ℕ) → own_number (where_is rs r.through (r.start - s + r.through + p)) ≡ Some i → laid_by g rs (r.start - s) r.through (set os i x) ≡ set (laid_by g rs (r.start - s) r.through os) p x) → r.start ≤ f + s + q → (b : Bool) → nat_lt (f + s + q) r.end ≡ b → own_number (cond b (among_lent r (f + s + q - r.start)) (where_is rs r.through (f + s + q))) ≡ Some i → between (set os i x) f (r.start - s) ++ (g r ++ laid_by g rs (r.start - s) r.through (set os i x)) ≡ set (between os f (r.start - s) ++ (g r ++ laid_by g rs (r.start - s) r.through os)) q x
    second more k true t w = no_number w
    second more k false t w =
        let behind : r.end ≤ f + s + q = ltb-false (f + s + q) r.end t in
        let p : f + s + q ≡ r.start - s + r.through + (q - (r.start - s - f) - length (arc_value r.objects)) = omega (arith, behind, h.0, h.2, h.3) in
        let after : r.start - s ≤ i = own_from rs (r.start - s) r.through n from l (f + s + q) i h.4 (omega (arith, p)) w in
        ap (λ xs. xs ++ (g r ++ laid_by g rs (r.start - s) r.through (set os i x))) (between_blind os f (r.start - s) i x (omega (arith, h.0)) after)
        ∙ ap (λ xs. between os f (r.start - s) ++ (g r ++ xs)) (more (q - (r.start - s - f) - length (arc_value r.objects)) (ap (λ m. own_number (where_is rs r.through m)) (sym p) ∙ w))
        ∙ ap (λ xs. between os f (r.start - s) ++ xs) (sym (set-append_right (g r) (laid_by g rs (r.start - s) r.through os) (length (arc_value r.objects)) (q - (r.start - s - f)) x (same r) (omega (arith, behind, h.0, h.2))))
        ∙ sym (set-append_right (between os f (r.start - s)) (g r ++ laid_by g rs (r.start - s) r.through os) (r.start - s - f) q x len (omega (arith, k)))

    first : ((p : ℕ) → own_number (where_is rs r.through (r.start - s + r.through + p)) ≡ Some i → laid_by g rs (r.start - s) r.through (set os i x) ≡ set (laid_by g rs (r.start - s) r.through os) p x) → (b : Bool) → nat_lt (f + s + q) r.start ≡ b → own_number (cond b (among_own (f + s + q - s)) (cond (nat_lt (f + s + q) r.end) (among_lent r (f + s + q - r.start)) (where_is rs r.through (f + s + q)))) ≡ Some i → between (set os i x) f (r.start - s) ++ (g r ++ laid_by g rs (r.start - s) r.through (set os i x)) ≡ set (between os f (r.start - s) ++ (g r ++ laid_by g rs (r.start - s) r.through os)) q x
    first more true t w =
        let before : f + s + q < r.start = ltb-true (f + s + q) r.start t in
        let at : i ≡ f + q = omega (arith, number w) in
        ap (λ xs. between (set os i x) f (r.start - s) ++ (g r ++ xs)) (laid_blind g rs (r.start - s) r.through n from l os i x h.4 (omega (arith, at, before)))
        ∙ ap (λ j. between (set os j x) f (r.start - s) ++ (g r ++ laid_by g rs (r.start - s) r.through os)) at
        ∙ ap (λ xs. xs ++ (g r ++ laid_by g rs (r.start - s) r.through os)) (between_set os f (r.start - s) q x (omega (arith, before)))
        ∙ sym (set-append_left (between os f (r.start - s)) (g r ++ laid_by g rs (r.start - s) r.through os) q x (omega (arith, before, len)))
    first more false t w = second more (ltb-false (f + s + q) r.start t) (nat_lt (f + s + q) r.end) refl w

-- ---- one object more, and a range

pub laid_pushed : {A : Type 0} (g : Range → List A) (rs : List Range) (f s n from l : ℕ) (os ps : List A) → n ≡ length os → InOrder rs f s n from l → laid_by g rs f s (os ++ ps) ≡ laid_by g rs f s os ++ ps
laid_pushed g [] f s n from l os ps e h = drop-append-le f os ps (omega (arith, h.2, e))
laid_pushed g (r ∷ rs) f s n from l os ps e h =
    let part : between (os ++ ps) f (r.start - s) ≡ between os f (r.start - s) = ap (take (r.start - s - f)) (drop-append-le f os ps (omega (arith, h.0, h.1, e))) ∙ take-append-le (r.start - s - f) (drop f os) ps (rw length-drop (omega (arith, h.0, h.1, e))) in
    ap (λ xs. xs ++ (g r ++ laid_by g rs (r.start - s) r.through (os ++ ps))) part
    ∙ ap (λ xs. between os f (r.start - s) ++ (g r ++ xs)) (laid_pushed g rs (r.start - s) r.through n from l os ps e h.4)
    ∙ ap (λ xs. between os f (r.start - s) ++ xs) (sym (append_assoc (g r) (laid_by g rs (r.start - s) r.through os) ps))
    ∙ sym (append_assoc (between os f (r.start - s)) (g r ++ laid_by g rs (r.start - s) r.through os) ps)

pub laid_length : {A : Type 0} (g : Range → List A) → IsAsLong g → (rs : List Range) (f s n from l : ℕ) (os : List A) → n ≡ length os → InOrder rs f s n from l → f + s + length (laid_by g rs f s os) ≡ n + l
laid_length g same [] f s n from l os e h = rw length-drop (omega (arith, e, h.1, h.2))
laid_length g same (r ∷ rs) f s n from l os e h =
    let part = between_length os f (r.start - s) (omega (arith, h.0)) (omega (arith, h.0, h.1, e)) in
    let rest = laid_length g same rs (r.start - s) r.through n from l os e h.4 in
    let two = length-append (between os f (r.start - s)) (g r ++ laid_by g rs (r.start - s) r.through os) in
    let more = length-append (g r) (laid_by g rs (r.start - s) r.through os) in
    omega (arith, two, more, part, same r, rest, h.0, h.3)

pub laid_lent : {A : Type 0} (g : Range → List A) (rs : List Range) (r : Range) (f s n from l : ℕ) (os : List A) → n ≡ length os → InOrder rs f s n from l → r.start ≡ n + l → laid_by g (rs ++ r ∷ []) f s os ≡ laid_by g rs f s os ++ g r
laid_lent g [] r f s n from l os e h start =
    let all : r.start - s ≡ length os = omega (arith, start, e, h.1) in
    ap (λ b. between os f b ++ (g r ++ drop b os)) all
    ∙ ap (λ xs. between os f (length os) ++ (g r ++ xs)) (drop-length os)
    ∙ ap (λ xs. between os f (length os) ++ xs) (append-nil (g r))
    ∙ ap (λ xs. xs ++ g r) (ap (λ m. take m (drop f os)) (sym (length-drop f os)) ∙ take-length (drop f os))
laid_lent g (p ∷ rs) r f s n from l os e h start =
    ap (λ xs. between os f (p.start - s) ++ (g p ++ xs)) (laid_lent g rs r (p.start - s) p.through n from l os e h.4 start)
    ∙ ap (λ xs. between os f (p.start - s) ++ xs) (sym (append_assoc (g p) (laid_by g rs (p.start - s) p.through os) (g r)))
    ∙ sym (append_assoc (between os f (p.start - s)) (g p ++ laid_by g rs (p.start - s) p.through os) (g r))

-- ---- what is said of each object

pub laid_map : {A B : Type 0} (v : A → B) (g : Range → List A) (rs : List Range) (f s : ℕ) (os : List A) → map v (laid_by g rs f s os) ≡ laid_by (λ r. map v (g r)) rs f s (map v os)
laid_map v g [] f s os = sym (drop-map v f os)
laid_map v g (r ∷ rs) f s os =
    map-append v (between os f (r.start - s)) (g r ++ laid_by g rs (r.start - s) r.through os)
    ∙ ap (λ xs. map v (between os f (r.start - s)) ++ xs) (map-append v (g r) (laid_by g rs (r.start - s) r.through os))
    ∙ ap (λ xs. map v (between os f (r.start - s)) ++ (map v (g r) ++ xs)) (laid_map v g rs (r.start - s) r.through os)
    ∙ ap (λ xs. xs ++ (map v (g r) ++ laid_by (λ r. map v (g r)) rs (r.start - s) r.through (map v os))) (sym (take-map v (r.start - s - f) (drop f os)) ∙ ap (take (r.start - s - f)) (sym (drop-map v f os)))
