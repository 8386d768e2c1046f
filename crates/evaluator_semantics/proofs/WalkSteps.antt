-- Walks never have more steps left than they began with.
use Rattle.std.proofs.Common.{ℕ, zero, suc, ◌≤◌, ◌-◌, ◌==◌, arith, List, [], ◌∷◌, Bool, true, false, Option, Some, None}
use Rattle.std.specs.Prelude.{codes, if◌then◌else◌, nat_lt, length}
use Rattle.std.specs.declared.cmp.Ordering.{Ordering}
use Rattle.values_semantics.specs.declared.key.Part.{Part}
use Rattle.values_semantics.specs.declared.val.Val.{Val}
use Rattle.values_semantics.specs.declared.val.Entry.{Entry}
use Rattle.values_semantics.specs.Outcome.{Out, gives, faults, Does, and_then, tick, spend}
use Rattle.values_semantics.specs.Heap.{Obj, Entries}
use Rattle.values_semantics.specs.Hashing.{AsKey, part, parts, no_key, as_key, along, visit_key, key}
use Rattle.values_semantics.specs.Comparing.{Pair, settled, members, entries, pair, entry_at, equal_members, equal_found, equal_entry, equal_entries, visit_pair, equal, Sides, ordered, listed, no_order, sides, Parting, settled_as, unequal, parting, order_parted, visit_sides, order}
use Rattle.values_semantics.specs.Membership.{any_equal}
use Rattle.values_semantics.specs.Printing as p
use Rattle.values_semantics.specs.Printing.{PrintShape, shown, following, separated, tuple_end, pair_text, container, visit_shown, print}
use Rattle.values_semantics.specs.Freezing as z
use Rattle.values_semantics.specs.Freezing.{FreezeShape, held, freeze_members, freeze_entry, freeze_entries, visit_held, freeze, Fz, Fzs, Pairs}

abbrev pub LeavesAtMost : {A : Type 0} → ℕ → Out ℕ A → Type 0
LeavesAtMost n (gives a s) = s ≤ n
LeavesAtMost n (faults c) = Unit {0}

pub record WalkFalls {A : Type 0} (n : ℕ) (e : Out ℕ A) : Type 0 where
  pub at : LeavesAtMost n e

-- a walk that never has more steps left
abbrev pub Falling : {A : Type 0} → Does ℕ A → Type 0
Falling m = (s : ℕ) → WalkFalls s (m s)

pub w_gives : {A : Type 0} (a : A) (n : ℕ) → WalkFalls n (gives a n)
w_gives a n = record { at = omega arith }

pub w_fault : {A : Type 0} (c n : ℕ) → WalkFalls {A = A} n (faults c)
w_fault c n = record { at = tt }

w_then_at : {A B : Type 0} (n : ℕ) (e : Out ℕ A) (k : A → Does ℕ B) → LeavesAtMost n e → ((a : A) → Falling (k a)) → LeavesAtMost n (and_then e k)
w_then_at {B = B} n (faults c) k p h = tt
w_then_at {B = B} n (gives a s) k p h = lower s n p (k a s) (h a s).at
  where
    lower : (s n : ℕ) → s ≤ n → (o : Out ℕ B) → LeavesAtMost s o → LeavesAtMost n o
    lower s n p (gives b t) q = omega arith
    lower s n p (faults c) q = tt

pub w_then : {A B : Type 0} (n : ℕ) (e : Out ℕ A) (k : A → Does ℕ B) → WalkFalls n e → ((a : A) → Falling (k a)) → WalkFalls n (and_then e k)
w_then n e k p h = record { at = w_then_at n e k p.at h }

pub w_if : {A : Type 0} (b : Bool) (m k : Does ℕ A) (n : ℕ) → WalkFalls n (m n) → WalkFalls n (k n) → WalkFalls n ((if b then m else k) n)
w_if true m k n p q = p
w_if false m k n p q = q

w_choice : {A : Type 0} (b : Bool) (n : ℕ) (e f : Out ℕ A) → WalkFalls n e → WalkFalls n f → WalkFalls n (if b then e else f)
w_choice true n e f p q = p
w_choice false n e f p q = q

less : {A : Type 0} (a : A) (n k : ℕ) → WalkFalls n (gives a (n - k))
less a n k = record { at = omega arith }

pub w_tick : Falling tick
w_tick n = w_choice (n == 0) n (faults 11) (gives tt (n - 1)) (w_fault 11 n) (less tt n 1)

pub w_spend : (k : ℕ) → Falling (spend k)
w_spend k n = w_choice (nat_lt n k) n (faults 11) (gives tt (n - k)) (w_fault 11 n) (less tt n k)

-- ---- hashing

along_falls : (f : Val → Does ℕ (List Part)) → ((x : Val) → Falling (f x)) → (xs : List Val) → Falling (along f xs)
along_falls f h [] n = w_gives [] n
along_falls f h (x ∷ xs) n = w_then n (f x n) _ (h x n) λ ps m. w_then m (along f xs m) _ (along_falls f h xs m) λ qs k. w_gives _ k

visit_key_falls : (f : Val → Does ℕ (List Part)) → ((x : Val) → Falling (f x)) → (k : AsKey) → Falling (visit_key (Some f) k)
visit_key_falls f h (part p) n = w_then n (tick n) _ (w_tick n) λ _ m. w_gives _ m
visit_key_falls f h (parts xs) n = w_then n (tick n) _ (w_tick n) λ _ m. w_then m (along f xs m) _ (along_falls f h xs m) λ ps k. w_gives _ k
visit_key_falls f h no_key n = w_then n (tick n) _ (w_tick n) λ _ m. w_fault 5 m

visit_last_key_falls : (k : AsKey) → Falling (visit_key None k)
visit_last_key_falls (part p) n = w_then n (tick n) _ (w_tick n) λ _ m. w_gives _ m
visit_last_key_falls (parts xs) n = w_fault 12 n
visit_last_key_falls no_key n = w_then n (tick n) _ (w_tick n) λ _ m. w_fault 5 m

pub key_falls : (depth : ℕ) (heap : List Obj) (x : Val) → Falling (key depth heap x)
unfolding key
key_falls zero heap x n = visit_last_key_falls (as_key heap x) n
key_falls (suc d) heap x n = visit_key_falls (key d heap) (key_falls d heap) (as_key heap x) n

-- ---- comparing

equal_members_falls : (f : Val → Val → Does ℕ Bool) → ((x y : Val) → Falling (f x y)) → (xs ys : List Val) → Falling (equal_members f xs ys)
equal_members_falls f h [] ys n = w_gives _ n
equal_members_falls f h (x ∷ xs) [] n = w_gives _ n
equal_members_falls f h (x ∷ xs) (y ∷ ys) n = w_then n (f x y n) _ (h x y n) λ same m. w_if same _ _ m (equal_members_falls f h xs ys m) (w_gives _ m)

equal_found_falls : (f : Val → Val → Does ℕ Bool) → ((x y : Val) → Falling (f x y)) → (x : Val) (e : Option Entry) → Falling (equal_found f x e)
equal_found_falls f h x None n = w_gives _ n
equal_found_falls f h x (Some e) n = h x e.value n

equal_entries_falls : (f : Val → Val → Does ℕ Bool) → ((x y : Val) → Falling (f x y)) → (xs ys : Entries) → Falling (equal_entries f xs ys)
equal_entries_falls f h [] ys n = w_gives _ n
equal_entries_falls f h (x ∷ xs) ys n =
    w_then n (equal_entry f x.0 x.1.value ys n) _ (w_then n (spend (length x.0) n) _ (w_spend (length x.0) n) λ _ m. equal_found_falls f h x.1.value (entry_at x.0 ys) m) λ same m.
    w_if same _ _ m (equal_entries_falls f h xs ys m) (w_gives _ m)

visit_pair_falls : (f : Val → Val → Does ℕ Bool) → ((x y : Val) → Falling (f x y)) → (p : Pair) → Falling (visit_pair (Some f) p)
visit_pair_falls f h (settled b) n = w_then n (tick n) _ (w_tick n) λ _ m. w_gives _ m
visit_pair_falls f h (members xs ys) n = w_then n (tick n) _ (w_tick n) λ _ m. equal_members_falls f h xs ys m
visit_pair_falls f h (entries xs ys) n = w_then n (tick n) _ (w_tick n) λ _ m. equal_entries_falls f h xs ys m

visit_last_pair_falls : (p : Pair) → Falling (visit_pair None p)
visit_last_pair_falls (settled b) n = w_then n (tick n) _ (w_tick n) λ _ m. w_gives _ m
visit_last_pair_falls (members xs ys) n = w_fault 12 n
visit_last_pair_falls (entries xs ys) n = w_fault 12 n

pub equal_falls : (depth : ℕ) (heap : List Obj) (x y : Val) → Falling (equal depth heap x y)
unfolding equal
equal_falls zero heap x y n = visit_last_pair_falls (pair heap x y) n
equal_falls (suc d) heap x y n = visit_pair_falls (equal d heap) (equal_falls d heap) (pair heap x y) n

pub any_equal_falls : (f : Val → Val → Does ℕ Bool) → ((x y : Val) → Falling (f x y)) → (x : Val) (ys : List Val) → Falling (any_equal f x ys)
any_equal_falls f h x [] n = w_gives _ n
any_equal_falls f h x (y ∷ ys) n = w_then n (f x y n) _ (h x y n) λ same m. w_if same _ _ m (w_gives _ m) (any_equal_falls f h x ys m)

parting_falls : (f : Val → Val → Does ℕ Bool) → ((x y : Val) → Falling (f x y)) → (xs ys : List Val) → Falling (parting f xs ys)
parting_falls f h [] [] n = w_gives _ n
parting_falls f h [] (y ∷ ys) n = w_gives _ n
parting_falls f h (x ∷ xs) [] n = w_gives _ n
parting_falls f h (x ∷ xs) (y ∷ ys) n = w_then n (f x y n) _ (h x y n) λ same m. w_if same _ _ m (parting_falls f h xs ys m) (w_gives _ m)

order_parted_falls : (g : Val → Val → Does ℕ Ordering) → ((x y : Val) → Falling (g x y)) → (q : Parting) → Falling (order_parted g q)
order_parted_falls g h (settled_as o) n = w_gives o n
order_parted_falls g h (unequal x y) n = h x y n

visit_sides_falls : (f : Val → Val → Does ℕ Bool) (g : Val → Val → Does ℕ Ordering) → ((x y : Val) → Falling (f x y)) → ((x y : Val) → Falling (g x y)) → (q : Sides) → Falling (visit_sides (Some (f, g)) q)
visit_sides_falls f g h k (ordered o) n = w_then n (tick n) _ (w_tick n) λ _ m. w_gives _ m
visit_sides_falls f g h k no_order n = w_then n (tick n) _ (w_tick n) λ _ m. w_fault 5 m
visit_sides_falls f g h k (listed xs ys) n = w_then n (tick n) _ (w_tick n) λ _ m. w_then m (parting f xs ys m) _ (parting_falls f h xs ys m) λ q i. order_parted_falls g k q i

visit_last_sides_falls : (q : Sides) → Falling (visit_sides None q)
visit_last_sides_falls (ordered o) n = w_then n (tick n) _ (w_tick n) λ _ m. w_gives _ m
visit_last_sides_falls no_order n = w_then n (tick n) _ (w_tick n) λ _ m. w_fault 5 m
visit_last_sides_falls (listed xs ys) n = w_fault 12 n

pub order_falls : (depth : ℕ) (heap : List Obj) (x y : Val) → Falling (order depth heap x y)
unfolding order
order_falls zero heap x y n = visit_last_sides_falls (sides heap x y) n
order_falls (suc d) heap x y n = visit_sides_falls (equal d heap) (order d heap) (equal_falls d heap) (order_falls d heap) (sides heap x y) n

-- ---- printing

following_falls : {A : Type 0} (f : A → Does ℕ (List ℕ)) → ((x : A) → Falling (f x)) → (xs : List A) → Falling (following f xs)
following_falls f h [] n = w_gives _ n
following_falls f h (x ∷ xs) n = w_then n (f x n) _ (h x n) λ t m. w_then m (following f xs m) _ (following_falls f h xs m) λ _ k. w_gives _ k

separated_falls : {A : Type 0} (f : A → Does ℕ (List ℕ)) → ((x : A) → Falling (f x)) → (xs : List A) → Falling (separated f xs)
separated_falls f h [] n = w_gives _ n
separated_falls f h (x ∷ xs) n = w_then n (f x n) _ (h x n) λ t m. w_then m (following f xs m) _ (following_falls f h xs m) λ _ k. w_gives _ k

pair_text_falls : (f : Val → Does ℕ (List ℕ)) → ((x : Val) → Falling (f x)) → (e : List Part × Entry) → Falling (pair_text f e)
pair_text_falls f h e n = w_then n (f e.1.key n) _ (h e.1.key n) λ t m. w_then m (f e.1.value m) _ (h e.1.value m) λ u k. w_gives _ k

container_falls : (before : List ℕ) (inner : Does ℕ (List ℕ)) (behind : List ℕ) → Falling inner → Falling (container before inner behind)
container_falls before inner behind h n = w_then n (tick n) _ (w_tick n) λ _ m. w_then m (inner m) _ (h m) λ t k. w_gives _ k

visit_shown_falls : (f : Val → Does ℕ (List ℕ)) → ((x : Val) → Falling (f x)) → (x : PrintShape) → Falling (visit_shown (Some f) x)
visit_shown_falls f h (p.written t) n = w_then n (tick n) _ (w_tick n) λ _ m. w_gives _ m
visit_shown_falls f h p.absent n = w_then n (tick n) _ (w_tick n) λ _ m. w_fault 5 m
visit_shown_falls f h (p.listed xs) n = container_falls (codes "[") (separated f xs) (codes "]") (separated_falls f h xs) n
visit_shown_falls f h (p.tupled xs) n = container_falls (codes "(") (separated f xs) (tuple_end xs) (separated_falls f h xs) n
visit_shown_falls f h (p.mapped es) n = container_falls (codes "{") (separated (pair_text f) es) (codes "}") (separated_falls (pair_text f) (pair_text_falls f h) es) n

visit_last_shown_falls : (x : PrintShape) → Falling (visit_shown None x)
visit_last_shown_falls (p.written t) n = w_then n (tick n) _ (w_tick n) λ _ m. w_gives _ m
visit_last_shown_falls p.absent n = w_then n (tick n) _ (w_tick n) λ _ m. w_fault 5 m
visit_last_shown_falls (p.listed xs) n = w_fault 12 n
visit_last_shown_falls (p.tupled xs) n = w_fault 12 n
visit_last_shown_falls (p.mapped es) n = w_fault 12 n

pub print_falls : (depth : ℕ) (heap : List Obj) (x : Val) → Falling (print depth heap x)
unfolding print
print_falls zero heap x n = visit_last_shown_falls (shown heap x) n
print_falls (suc d) heap x n = visit_shown_falls (print d heap) (print_falls d heap) (shown heap x) n

-- ---- freezing

pub freeze_members_falls : (f : Val → Does ℕ Fz) → ((x : Val) → Falling (f x)) → (xs : List Val) → Falling (freeze_members f xs)
freeze_members_falls f h [] n = w_gives _ n
freeze_members_falls f h (x ∷ xs) n = w_then n (f x n) _ (h x n) λ t m. w_then m (freeze_members f xs m) _ (freeze_members_falls f h xs m) λ _ k. w_gives _ k

freeze_entries_falls : (f : Val → Does ℕ Fz) → ((x : Val) → Falling (f x)) → (es : Entries) → Falling (freeze_entries f es)
freeze_entries_falls f h [] n = w_gives _ n
freeze_entries_falls f h (e ∷ es) n =
    w_then n (freeze_entry f e.1 n) _ (w_then n (f e.1.key n) _ (h e.1.key n) λ t m. w_then m (f e.1.value m) _ (h e.1.value m) λ u k. w_gives _ k) λ q m.
    w_then m (freeze_entries f es m) _ (freeze_entries_falls f h es m) λ _ i. w_gives _ i

visit_held_falls : (f : Val → Does ℕ Fz) → ((x : Val) → Falling (f x)) → (x : FreezeShape) → Falling (visit_held (Some f) x)
visit_held_falls f h (z.settled t) n = w_then n (tick n) _ (w_tick n) λ _ m. w_gives _ m
visit_held_falls f h z.absent n = w_then n (tick n) _ (w_tick n) λ _ m. w_fault 5 m
visit_held_falls f h (z.listed xs) n = w_then n (tick n) _ (w_tick n) λ _ m. w_then m (freeze_members f xs m) _ (freeze_members_falls f h xs m) λ _ k. w_gives _ k
visit_held_falls f h (z.tupled xs) n = w_then n (tick n) _ (w_tick n) λ _ m. w_then m (freeze_members f xs m) _ (freeze_members_falls f h xs m) λ _ k. w_gives _ k
visit_held_falls f h (z.mapped es) n = w_then n (tick n) _ (w_tick n) λ _ m. w_then m (freeze_entries f es m) _ (freeze_entries_falls f h es m) λ _ k. w_gives _ k

visit_last_held_falls : (x : FreezeShape) → Falling (visit_held None x)
visit_last_held_falls (z.settled t) n = w_then n (tick n) _ (w_tick n) λ _ m. w_gives _ m
visit_last_held_falls z.absent n = w_then n (tick n) _ (w_tick n) λ _ m. w_fault 5 m
visit_last_held_falls (z.listed xs) n = w_fault 12 n
visit_last_held_falls (z.tupled xs) n = w_fault 12 n
visit_last_held_falls (z.mapped es) n = w_fault 12 n

pub freeze_falls : (depth : ℕ) (heap : List Obj) (x : Val) → Falling (freeze depth heap x)
unfolding freeze
freeze_falls zero heap x n = visit_last_held_falls (held heap x) n
freeze_falls (suc d) heap x n = visit_held_falls (freeze d heap) (freeze_falls d heap) (held heap x) n
