-- Indexing, slicing, change and iteration.
use Rattle.std.specs.Prelude.{ℕ, suc, ℤ, pos, negsuc, ◌-◌, Bool, List, [], ◌∷◌, length, take, drop, min, Option, Some, None, if◌then◌else◌, nat_lt, ◌==◌, slice_get, slice_set, option_map, map}
use Rattle.std.specs.List.{list_any}
use Rattle.values_semantics.specs.declared.key.Part.{Part}
use Rattle.values_semantics.specs.declared.val.Val.{Val}
use Rattle.values_semantics.specs.declared.val.Val.TheVariants as v
use Rattle.values_semantics.specs.declared.val.Entry.{Entry}
use Rattle.values_semantics.specs.Keys.{same_key}
use Rattle.values_semantics.specs.Outcome.{gives, faults, Does, ◌>>=◌, ◌>>◌, fault, or_fault, ValueOrFault, good, bad, then_checked, or_bad, lift_fault}
use Rattle.values_semantics.specs.Heap.{Entries, Obj, text, list, tuple, dict, Store, at, walks, makes_text, makes_list, makes_tuple, puts, is_sized}
use Rattle.values_semantics.specs.Hashing.{key}
use Rattle.values_semantics.specs.Comparing.{entry_at}
use Rattle.values_semantics.specs.declared.faults.TheConstants.{ABSENT, FROZEN, ITERATED, TOO_LARGE, WRONG_TYPE}

-- hashing begins outside of all containers
abbrev pub hash : Val → Does Store (List Part)
hash x = walks λ heap. key 64 heap x

-- the place that an index names among this many; a negative index counts from the end
abbrev pub place : ℤ → ℕ → Option ℕ
place (pos i) n = if nat_lt i n then Some i else None
place (negsuc i) n = if nat_lt i n then Some (n - suc i) else None

abbrev pub at_place : {A : Type 0} → List A → Option ℕ → Option A
at_place xs None = None
at_place xs (Some i) = slice_get xs i

-- what is at an index
abbrev pub member : {A : Type 0} → List A → ℤ → Option A
member xs i = at_place xs (place i (length xs))

-- an int, and not a bool
abbrev pub int_of : Val → ValueOrFault ℤ
int_of (v.Int n) = good n
int_of x = bad WRONG_TYPE

-- what is at an index of a list, or fault 8
abbrev pub found_at : {A : Type 0} → List A → Val → ValueOrFault A
found_at xs i = then_checked (int_of i) (λ n. or_bad ABSENT (member xs n))

abbrev pub value_of : Option Entry → Option Val
value_of = option_map (λ e. e.value)

abbrev pub at_key : Option Obj → List Part → Does Store Val
at_key (Some (dict entries f)) k = or_fault ABSENT (value_of (entry_at k entries))
at_key object k = fault WRONG_TYPE

unfoldable pub found_key : Option Obj → Val → Does Store Val
found_key object i = hash i >>= at_key object

abbrev pub index_object : Option Obj → Val → Does Store Val
index_object (Some (text bytes)) i = lift_fault (found_at bytes i) >>= λ byte. makes_text (byte ∷ [])
index_object (Some (list members f)) i = lift_fault (found_at members i)
index_object (Some (tuple members)) i = lift_fault (found_at members i)
index_object (Some (dict entries f)) i = found_key (Some (dict entries f)) i
index_object object i = fault WRONG_TYPE

-- strings, lists and tuples by an int, dictionaries by a key; what is absent is fault 8
abbrev pub index : Val → Val → Does Store Val
index (v.At a) i = λ s. index_object (at a s) i s
index a i = fault WRONG_TYPE

-- where a bound cuts this many: from the end if it is negative, and within the range
abbrev pub bound : ℤ → ℕ → ℕ
bound (pos i) n = min i n
bound (negsuc i) n = n - suc i

-- a bound is an int, or None for the one that is absent
abbrev pub bound_or : ℕ → Val → ℕ → Option ℕ
bound_or other v.Nothing n = Some other
bound_or other (v.Int i) n = Some (bound i n)
bound_or other x n = None

abbrev pub between : {A : Type 0} → List A → ℕ → ℕ → List A
between xs from to = take (to - from) (drop from xs)

abbrev pub cut_at : {A : Type 0} → List A → Option ℕ → Option ℕ → Option (List A)
cut_at xs (Some from) (Some to) = Some (between xs from to)
cut_at xs from to = None

-- the part between two bounds
abbrev pub cut : {A : Type 0} → List A → Val → Val → Option (List A)
cut xs from to = cut_at xs (bound_or 0 from (length xs)) (bound_or (length xs) to (length xs))

abbrev pub slice_object : Option Obj → Val → Val → Does Store Val
slice_object (Some (text bytes)) i j = or_fault WRONG_TYPE (cut bytes i j) >>= makes_text
slice_object (Some (list members f)) i j = or_fault WRONG_TYPE (cut members i j) >>= makes_list
slice_object (Some (tuple members)) i j = or_fault WRONG_TYPE (cut members i j) >>= makes_tuple
slice_object object i j = fault WRONG_TYPE

-- a new string, list or tuple
abbrev pub slice : Val → Val → Val → Does Store Val
slice (v.At a) i j = λ s. slice_object (at a s) i j s
slice a i j = fault WRONG_TYPE

abbrev pub is_iterated : ℕ → Store → Bool
is_iterated a s = list_any (λ b. b == a) s.iterated

-- what is frozen is not changed (6), nor what is iterated (7)
abbrev pub may_change : ℕ → Bool → Does Store (Unit {0})
may_change a frozen s = if frozen then faults FROZEN else (if is_iterated a s then faults ITERATED else gives tt s)

abbrev pub set_place : ℕ → List Val → Bool → Val → Option ℕ → Does Store (Unit {0})
set_place a members f x None = fault ABSENT
set_place a members f x (Some i) = puts a (list (slice_set members i x) f)

abbrev pub set_member : ℕ → Option Obj → ℤ → Val → Does Store (Unit {0})
set_member a (Some (list members f)) i x = set_place a members f x (place i (length members))
set_member a object i x = fault WRONG_TYPE

-- a key set again keeps its place
abbrev pub with_key : List Part → Entry → Entries → Entries
with_key k e [] = (k, e) ∷ []
with_key k e (x ∷ xs) = if same_key k x.0 then (x.0, e) ∷ xs else x ∷ with_key k e xs

abbrev pub puts_sized : ℕ → Entries → Bool → Does Store (Unit {0})
puts_sized a entries f = if is_sized (length entries) then puts a (dict entries f) else fault TOO_LARGE

abbrev pub set_key : ℕ → Option Obj → List Part → Entry → Does Store (Unit {0})
set_key a (Some (dict entries f)) k e = puts_sized a (with_key k e entries) f
set_key a object k e = fault WRONG_TYPE

abbrev pub set_object : ℕ → Option Obj → Val → Val → Does Store (Unit {0})
set_object a (Some (list members f)) i x = lift_fault (int_of i) >>= λ n. may_change a f >> set_member a (Some (list members f)) n x
set_object a (Some (dict entries f)) i x = hash i >>= λ k. may_change a f >> set_key a (Some (dict entries f)) k (record { key = i; value = x })
set_object a object i x = fault WRONG_TYPE

-- a[i] = x, tested in order: type (5), frozen (6), iterated (7), index (8), size (13)
abbrev pub set_index : Val → Val → Val → Does Store (Unit {0})
set_index (v.At a) i x = λ s. set_object a (at a s) i x s
set_index a i x = fault WRONG_TYPE

-- the keys, in order
abbrev pub keys_of : Entries → List Val
keys_of entries = map (λ e. e.key) (map (λ e. e.1) entries)

abbrev pub items_of : Option Obj → ValueOrFault (List Val)
items_of (Some (list members f)) = good members
items_of (Some (tuple members)) = good members
items_of (Some (dict entries f)) = good (keys_of entries)
items_of object = bad WRONG_TYPE

-- iteration is over lists, tuples and the keys of dictionaries
abbrev pub items : Val → Store → ValueOrFault (List Val)
items (v.At a) s = items_of (at a s)
items a s = bad WRONG_TYPE
