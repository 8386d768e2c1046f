-- What works on the heap never has more steps left than it began with: objects, operators, indexes.
use Rattle.std.proofs.Common.{◌≡◌, ℕ, ℤ, ◌≤◌, arith, List, [], ◌∷◌, Bool, true, false, Option, Some, None, refl}
use Rattle.std.specs.Prelude.{if◌then◌else◌, ◌+ℤ◌, ◌-ℤ◌, ◌*ℤ◌, neg_ℤ, length}
use Rattle.std.specs.declared.cmp.Ordering.{Ordering}
use Rattle.std.specs.Ordering.{is_le, is_gt, is_ge}
use Rattle.values_semantics.specs.declared.key.Part.{Part}
use Rattle.values_semantics.specs.declared.val.Val.{Val}
use Rattle.values_semantics.specs.declared.val.Val.TheVariants as v
use Rattle.values_semantics.specs.declared.val.Entry.{Entry}
use Rattle.values_semantics.specs.declared.val.Operator.{Operator}
use Rattle.values_semantics.specs.declared.val.Operator.TheVariants as o
use Rattle.values_semantics.specs.Outcome.{Out, gives, faults, Does, and_then, ValueOrFault, good, bad, lift_fault, or_fault, fault, pure}
use Rattle.values_semantics.specs.Heap.{Obj, text, list, tuple, dict, Entries, Store, at, walk_done, walks, makes, makes_sized, makes_text, makes_list, makes_tuple, makes_dict, is_sized, puts}
use Rattle.values_semantics.specs.Numbers.{fits, whole, floor_div, floor_rem, unless_zero}
use Rattle.values_semantics.specs.Operators.{joins, add, subtract, multiply, repeats, divide, remainder, negate, plus}
use Rattle.values_semantics.specs.Hashing.{key}
use Rattle.values_semantics.specs.Comparing.{equal, order, equals, compares, entry_at}
use Rattle.values_semantics.specs.Indexing.{hash, at_key, found_key, found_at, value_of, index_object, index, cut, slice_object, slice, is_iterated, may_change, set_place, set_member, with_key, puts_sized, set_key, set_object, set_index, int_of, place}
use Rattle.values_semantics.specs.Membership.{any_equal, text_has, has_key, hashed_has, object_has, has}
use Rattle.values_semantics.specs.Binary.{less, test, binary}
use Rattle.evaluator_semantics.proofs.WalkSteps.{LeavesAtMost, Falling, key_falls, equal_falls, order_falls, any_equal_falls}

abbrev pub HeapAtMost : {A : Type 0} → ℕ → Out Store A → Type 0
HeapAtMost n (gives a s) = s.steps ≤ n
HeapAtMost n (faults c) = Unit {0}

pub record Down {A : Type 0} (n : ℕ) (e : Out Store A) : Type 0 where
  pub at : HeapAtMost n e

-- a piece that never has more steps left
abbrev pub Lowers : {A : Type 0} → Does Store A → Type 0
Lowers m = (s : Store) → Down s.steps (m s)

pub d_pure : {A : Type 0} (a : A) → Lowers (pure a)
d_pure a s = record { at = omega arith }

pub d_gives : {A : Type 0} (a : A) (n : ℕ) (s : Store) → s.steps ≡ n → Down n (gives a s)
d_gives a n s e = record { at = omega (arith, e) }

pub d_fault : {A : Type 0} (c n : ℕ) → Down {A = A} n (faults c)
d_fault c n = record { at = tt }

d_then_at : {A B : Type 0} (n : ℕ) (e : Out Store A) (k : A → Does Store B) → HeapAtMost n e → ((a : A) → Lowers (k a)) → HeapAtMost n (and_then e k)
d_then_at n (faults c) k p h = tt
d_then_at {B = B} n (gives a s) k p h = lower s.steps n p (k a s) (h a s).at
  where
    lower : (m n : ℕ) → m ≤ n → (o : Out Store B) → HeapAtMost m o → HeapAtMost n o
    lower m n p (gives b t) q = omega arith
    lower m n p (faults c) q = tt

pub d_then : {A B : Type 0} (n : ℕ) (e : Out Store A) (k : A → Does Store B) → Down n e → ((a : A) → Lowers (k a)) → Down n (and_then e k)
d_then n e k p h = record { at = d_then_at n e k p.at h }

pub d_if : {A : Type 0} (b : Bool) (m k : Does Store A) (s : Store) (n : ℕ) → Down n (m s) → Down n (k s) → Down n ((if b then m else k) s)
d_if true m k s n p q = p
d_if false m k s n p q = q

pub d_choice : {A : Type 0} (b : Bool) (n : ℕ) (e f : Out Store A) → Down n e → Down n f → Down n (if b then e else f)
d_choice true n e f p q = p
d_choice false n e f p q = q

pub d_checked : {A : Type 0} (c : ValueOrFault A) → Lowers (lift_fault c)
d_checked (good a) s = d_pure a s
d_checked (bad c) s = d_fault c _

pub d_or_fault : {A : Type 0} (c : ℕ) (a : Option A) → Lowers (or_fault c a)
d_or_fault c None s = d_fault c _
d_or_fault c (Some a) s = d_pure a s

done_falls : {A : Type 0} (s : Store) (o : Out ℕ A) → LeavesAtMost s.steps o → HeapAtMost s.steps (walk_done s o)
done_falls s (gives a n) h = h
done_falls s (faults c) h = tt

pub d_walks : {A : Type 0} (walk : List Obj → Does ℕ A) → ((heap : List Obj) → Falling (walk heap)) → Lowers (walks walk)
d_walks walk h s = record { at = done_falls s (walk s.heap s.steps) (h s.heap s.steps).at }

-- ---- objects

pub d_makes : (object : Obj) → Lowers (makes object)
d_makes object s = d_gives _ s.steps _ refl

pub d_sized : (n : ℕ) (object : Obj) → Lowers (makes_sized n object)
d_sized n object s = d_if (is_sized n) (makes object) (fault 13) s s.steps (d_makes object s) (d_fault 13 _)

pub d_puts : (a : ℕ) (object : Obj) → Lowers (puts a object)
d_puts a object s = d_gives _ s.steps _ refl

pub d_text : (bytes : List ℕ) → Lowers (makes_text bytes)
d_text bytes s = d_sized (length bytes) (text bytes) s

pub d_list : (xs : List Val) → Lowers (makes_list xs)
d_list xs s = d_sized (length xs) (list xs false) s

pub d_tuple : (xs : List Val) → Lowers (makes_tuple xs)
d_tuple xs s = d_sized (length xs) (tuple xs) s

pub d_dict : (es : Entries) → Lowers (makes_dict es)
d_dict es s = d_sized (length es) (dict es false) s

-- ---- arithmetic

whole_down : (z : ℤ) → Lowers (whole z)
whole_down z s = d_if (fits z) (pure (v.Int z)) (fault 9) s s.steps (d_pure _ s) (d_fault 9 _)

joins_down : (a b : Option Obj) → Lowers (joins a b)
joins_down (Some (text a)) (Some (text b)) s = d_text _ s
joins_down (Some (list a f)) (Some (list b g)) s = d_list _ s
joins_down (Some (tuple a)) (Some (tuple b)) s = d_tuple _ s
joins_down a b s = d_fault 5 _

pub add_down : (a b : Val) → Lowers (add a b)
add_down (v.Int x) (v.Int y) s = whole_down (x +ℤ y) s
add_down (v.At a) (v.At b) s = joins_down (at a s) (at b s) s
add_down a b s = d_fault 5 _

subtract_down : (a b : Val) → Lowers (subtract a b)
subtract_down (v.Int x) (v.Int y) s = whole_down (x -ℤ y) s
subtract_down a b s = d_fault 5 _

repeats_down : (a : Option Obj) (n : ℤ) → Lowers (repeats a n)
repeats_down (Some (text a)) n s = d_text _ s
repeats_down (Some (list a f)) n s = d_list _ s
repeats_down (Some (tuple a)) n s = d_tuple _ s
repeats_down a n s = d_fault 5 _

multiply_down : (a b : Val) → Lowers (multiply a b)
multiply_down (v.Int x) (v.Int y) s = whole_down (x *ℤ y) s
multiply_down (v.At a) (v.Int n) s = repeats_down (at a s) n s
multiply_down (v.Int n) (v.At a) s = repeats_down (at a s) n s
multiply_down a b s = d_fault 5 _

divide_down : (a b : Val) → Lowers (divide a b)
divide_down (v.Int x) (v.Int y) s = d_checked (unless_zero y (floor_div x y)) s
divide_down a b s = d_fault 5 _

remainder_down : (a b : Val) → Lowers (remainder a b)
remainder_down (v.Int x) (v.Int y) s = d_checked (unless_zero y (floor_rem x y)) s
remainder_down a b s = d_fault 5 _

pub negate_down : (a : Val) → Lowers (negate a)
negate_down (v.Int x) s = whole_down (neg_ℤ x) s
negate_down a s = d_fault 5 _

pub plus_down : (a : Val) → Lowers (plus a)
plus_down (v.Int x) s = d_pure _ s
plus_down a s = d_fault 5 _

-- ---- keys, indexes and slices

pub hash_down : (x : Val) → Lowers (hash x)
hash_down x s = d_walks (λ heap. key 64 heap x) (λ heap. key_falls 64 heap x) s

at_key_down : (object : Option Obj) (k : List Part) → Lowers (at_key object k)
at_key_down (Some (dict es f)) k s = d_or_fault 8 (value_of (entry_at k es)) s
at_key_down object k s = d_fault 5 _

found_key_down : (object : Option Obj) (i : Val) → Lowers (found_key object i)
unfolding found_key
found_key_down object i s = d_then s.steps (hash i s) (at_key object) (hash_down i s) (λ k. at_key_down object k)

index_object_down : (object : Option Obj) (i : Val) → Lowers (index_object object i)
index_object_down (Some (text bytes)) i s = d_then s.steps (lift_fault (found_at bytes i) s) (λ byte. makes_text (byte ∷ [])) (d_checked (found_at bytes i) s) (λ byte. d_text (byte ∷ []))
index_object_down (Some (list xs f)) i s = d_checked (found_at xs i) s
index_object_down (Some (tuple xs)) i s = d_checked (found_at xs i) s
index_object_down (Some (dict es f)) i s = found_key_down (Some (dict es f)) i s
index_object_down object i s = d_fault 5 _

pub index_down : (a i : Val) → Lowers (index a i)
index_down (v.At a) i s = index_object_down (at a s) i s
index_down a i s = d_fault 5 _

slice_object_down : (object : Option Obj) (i j : Val) → Lowers (slice_object object i j)
slice_object_down (Some (text bytes)) i j s = d_then s.steps (or_fault 5 (cut bytes i j) s) makes_text (d_or_fault 5 (cut bytes i j) s) d_text
slice_object_down (Some (list xs f)) i j s = d_then s.steps (or_fault 5 (cut xs i j) s) makes_list (d_or_fault 5 (cut xs i j) s) d_list
slice_object_down (Some (tuple xs)) i j s = d_then s.steps (or_fault 5 (cut xs i j) s) makes_tuple (d_or_fault 5 (cut xs i j) s) d_tuple
slice_object_down object i j s = d_fault 5 _

pub slice_down : (a i j : Val) → Lowers (slice a i j)
slice_down (v.At a) i j s = slice_object_down (at a s) i j s
slice_down a i j s = d_fault 5 _

-- ---- change

pub may_change_down : (a : ℕ) (f : Bool) → Lowers (may_change a f)
may_change_down a f s = d_choice f s.steps (faults 6) (if is_iterated a s then faults 7 else gives tt s) (d_fault 6 _) (d_choice (is_iterated a s) s.steps (faults 7) (gives tt s) (d_fault 7 _) (d_pure tt s))

set_place_down : (a : ℕ) (xs : List Val) (f : Bool) (x : Val) (i : Option ℕ) → Lowers (set_place a xs f x i)
set_place_down a xs f x None s = d_fault 8 _
set_place_down a xs f x (Some i) s = d_puts a _ s

set_member_down : (a : ℕ) (object : Option Obj) (i : ℤ) (x : Val) → Lowers (set_member a object i x)
set_member_down a (Some (list xs f)) i x s = set_place_down a xs f x (place i (length xs)) s
set_member_down a object i x s = d_fault 5 _

puts_sized_down : (a : ℕ) (es : Entries) (f : Bool) → Lowers (puts_sized a es f)
puts_sized_down a es f s = d_if (is_sized (length es)) (puts a (dict es f)) (fault 13) s s.steps (d_puts a _ s) (d_fault 13 _)

set_key_down : (a : ℕ) (object : Option Obj) (k : List Part) (e : Entry) → Lowers (set_key a object k e)
set_key_down a (Some (dict es f)) k e s = puts_sized_down a (with_key k e es) f s
set_key_down a object k e s = d_fault 5 _

set_object_down : (a : ℕ) (object : Option Obj) (i x : Val) → Lowers (set_object a object i x)
set_object_down a (Some (list xs f)) i x s =
    d_then s.steps (lift_fault (int_of i) s) _ (d_checked (int_of i) s) λ n t. d_then t.steps (may_change a f t) _ (may_change_down a f t) λ _. set_member_down a (Some (list xs f)) n x
set_object_down a (Some (dict es f)) i x s =
    d_then s.steps (hash i s) _ (hash_down i s) λ k t. d_then t.steps (may_change a f t) _ (may_change_down a f t) λ _. set_key_down a (Some (dict es f)) k (record { key = i; value = x })
set_object_down a object i x s = d_fault 5 _

pub set_index_down : (a i x : Val) → Lowers (set_index a i x)
set_index_down (v.At a) i x s = set_object_down a (at a s) i x s
set_index_down a i x s = d_fault 5 _

-- ---- operators

has_key_down : (object : Option Obj) (k : List Part) → Lowers (has_key object k)
has_key_down (Some (dict es f)) k s = d_pure _ s
has_key_down object k s = d_fault 5 _

hashed_has_down : (object : Option Obj) (x : Val) → Lowers (hashed_has object x)
unfolding hashed_has
hashed_has_down object x s = d_then s.steps (hash x s) (has_key object) (hash_down x s) λ k t. has_key_down object k t

object_has_down : (object : Option Obj) (x : Val) → Lowers (object_has object x)
object_has_down (Some (text whole)) x s = d_checked (text_has s.heap whole x) s
object_has_down (Some (list xs f)) x s = d_walks (λ heap. any_equal (equal 64 heap) x xs) (λ heap. any_equal_falls (equal 64 heap) (equal_falls 64 heap) x xs) s
object_has_down (Some (tuple xs)) x s = d_walks (λ heap. any_equal (equal 64 heap) x xs) (λ heap. any_equal_falls (equal 64 heap) (equal_falls 64 heap) x xs) s
object_has_down (Some (dict es f)) x s = hashed_has_down (Some (dict es f)) x s
object_has_down object x s = d_fault 5 _

has_down : (x a : Val) → Lowers (has x a)
has_down x (v.At a) s = object_has_down (at a s) x s
has_down x a s = d_fault 5 _

equals_down : (a b : Val) → Lowers (equals a b)
equals_down a b s = d_walks (λ heap. equal 64 heap a b) (λ heap. equal_falls 64 heap a b) s

test_down : (holds : Ordering → Bool) (a b : Val) → Lowers (test holds a b)
test_down holds a b s = d_then s.steps (compares a b s) _ (d_walks (λ heap. order 64 heap a b) (λ heap. order_falls 64 heap a b) s) λ o t. d_pure _ t

pub binary_down : (op : Operator) (a b : Val) → Lowers (binary op a b)
binary_down o.Equal a b s = d_then s.steps (equals a b s) _ (equals_down a b s) λ c t. d_pure _ t
binary_down o.NotEqual a b s = d_then s.steps (equals a b s) _ (equals_down a b s) λ c t. d_pure _ t
binary_down o.Less a b s = d_then s.steps (less a b s) _ (d_then s.steps (compares a b s) _ (d_walks (λ heap. order 64 heap a b) (λ heap. order_falls 64 heap a b) s) λ q t. d_pure _ t) λ c t. d_pure _ t
binary_down o.LessEqual a b s = test_down is_le a b s
binary_down o.Greater a b s = test_down is_gt a b s
binary_down o.GreaterEqual a b s = test_down is_ge a b s
binary_down o.In a b s = d_then s.steps (has a b s) _ (has_down a b s) λ c t. d_pure _ t
binary_down o.NotIn a b s = d_then s.steps (has a b s) _ (has_down a b s) λ c t. d_pure _ t
binary_down o.Add a b s = add_down a b s
binary_down o.Subtract a b s = subtract_down a b s
binary_down o.Multiply a b s = multiply_down a b s
binary_down o.Divide a b s = divide_down a b s
binary_down o.Remainder a b s = remainder_down a b s
