-- The functions that every file has, except the package calls. A wrong number of arguments, or a name that a function
-- does not have, is fault 25 and tested first; a wrong type is fault 5.
use Rattle.std.specs.Prelude.{ℕ, zero, suc, ℤ, pos, negsuc, ◌+ℤ◌, ◌-ℤ◌, int_lt, ◌&&◌, Bool, true, false, not, List, [], ◌∷◌, length, reverse, map, drop, Option, Some, None, is_some, option_map, if◌then◌else◌, nat_le, codes}
use Rattle.std.specs.Ordering.{int_eq, int_cmp, nat_cmp, is_lt, is_gt}
use Rattle.std.specs.declared.cmp.Ordering.{Ordering}
use Rattle.std.specs.declared.cmp.Ordering.TheVariants.{Equal}
use Rattle.std.specs.Cmp.Lexicographic.{slice_cmp}
use Rattle.values_semantics.specs.declared.val.Val.{Val}
use Rattle.values_semantics.specs.declared.val.Val.TheVariants as v
use Rattle.values_semantics.specs.Values.{bool_value}
use Rattle.values_semantics.specs.declared.builtin.Builtin.{Builtin}
use Rattle.values_semantics.specs.declared.builtin.Builtin.TheVariants as b
use Rattle.values_semantics.specs.Outcome.{gives, faults, Does, and_then, ◌>>=◌, pure, fault, ValueOrFault, good, bad, lift_fault}
use Rattle.values_semantics.specs.Heap.{Entries, Obj, text, list, tuple, dict, function, Store, at, makes_text, makes_list, makes_tuple, makes_dict, is_sized, makes}
use Rattle.values_semantics.specs.Numbers.{floor_div}
use Rattle.values_semantics.specs.Operators.{is_true}
use Rattle.values_semantics.specs.Comparing.{same_text}
use Rattle.values_semantics.specs.Indexing.{items, hash, with_key}
use Rattle.values_semantics.specs.Printing.{str, repr}
use Rattle.values_semantics.specs.declared.faults.TheConstants.{FAIL_CALLED, TOO_LARGE, WRONG_ARGUMENTS, WRONG_TYPE}

-- the named arguments, in the order of the call
abbrev pub KeywordArguments : Type 0
KeywordArguments = List (List ℕ × Val)

abbrev pub the_items : Val → Does Store (List Val)
the_items x s = lift_fault (items x s) s

abbrev pub length_of : Option Obj → ValueOrFault ℕ
length_of (Some (text bytes)) = good (length bytes)
length_of (Some (list members f)) = good (length members)
length_of (Some (tuple members)) = good (length members)
length_of (Some (dict entries f)) = good (length entries)
length_of object = bad WRONG_TYPE

abbrev pub len : Val → Does Store Val
len (v.At a) = λ s. and_then (lift_fault (length_of (at a s)) s) (λ n. pure (v.Int (pos n)))
len x = fault WRONG_TYPE

-- how many numbers a range has
abbrev pub count_to : ℤ → ℕ
count_to (pos n) = n
count_to (negsuc n) = 0

abbrev pub range_count : (from to step : ℤ) → ℕ
range_count from to step = if int_lt (pos 0) step then count_to (floor_div ((to -ℤ from) +ℤ (step -ℤ pos 1)) step) else count_to (floor_div ((to -ℤ from) +ℤ (step +ℤ pos 1)) step)

-- this many numbers, each a step after the one before
abbrev pub numbers : ℕ → ℤ → ℤ → List Val
numbers zero from step = []
numbers (suc n) from step = v.Int from ∷ numbers n (from +ℤ step) step

abbrev pub range_list : (from to step : ℤ) → Does Store Val
range_list from to step = if is_sized (range_count from to step) then makes_list (numbers (range_count from to step) from step) else fault TOO_LARGE

abbrev pub range_by : Val → Val → Val → Does Store Val
range_by (v.Int from) (v.Int to) (v.Int step) = if int_eq step (pos 0) then fault WRONG_ARGUMENTS else range_list from to step
range_by from to (v.Int step) = if int_eq step (pos 0) then fault WRONG_ARGUMENTS else fault WRONG_TYPE
range_by from to step = fault WRONG_TYPE

abbrev pub range : List Val → Does Store Val
range (to ∷ []) = range_by (v.Int (pos 0)) to (v.Int (pos 1))
range (from ∷ to ∷ []) = range_by from to (v.Int (pos 1))
range (from ∷ to ∷ step ∷ []) = range_by from to step
range args = fault WRONG_ARGUMENTS

abbrev pub object_type : Option Obj → ValueOrFault (List ℕ)
object_type (Some (text bytes)) = good (codes "string")
object_type (Some (list members f)) = good (codes "list")
object_type (Some (tuple members)) = good (codes "tuple")
object_type (Some (dict entries f)) = good (codes "dict")
object_type (Some (function label name)) = good (codes "function")
object_type None = bad WRONG_TYPE

abbrev pub type_of : Val → Store → ValueOrFault (List ℕ)
type_of v.Nothing s = good (codes "NoneType")
type_of v.True s = good (codes "bool")
type_of v.False s = good (codes "bool")
type_of (v.Int n) s = good (codes "int")
type_of (v.Builtin n) s = good (codes "function")
type_of (v.At a) s = object_type (at a s)

-- members that are all ints, or all strings; they are ordered without steps
abbrev pub text_at : Option Obj → Option (List ℕ)
text_at (Some (text bytes)) = Some bytes
text_at object = None

abbrev pub as_text : Store → Val → Option (List ℕ)
as_text s (v.At a) = text_at (at a s)
as_text s x = None

abbrev pub texts_order : Option (List ℕ) → Option (List ℕ) → Ordering
texts_order (Some a) (Some b) = slice_cmp nat_cmp a b
texts_order a b = Equal

abbrev pub plain_order : Store → Val → Val → Ordering
plain_order s (v.Int a) (v.Int b) = int_cmp a b
plain_order s x y = texts_order (as_text s x) (as_text s y)

abbrev pub is_int : Val → Bool
is_int (v.Int n) = true
is_int x = false

abbrev pub all_so : (Val → Bool) → List Val → Bool
all_so test [] = true
all_so test (x ∷ xs) = if test x then all_so test xs else false

abbrev pub are_alike : Store → List Val → Bool
are_alike s xs = if all_so is_int xs then true else all_so (λ x. is_some (as_text s x)) xs

-- a member goes after those that are not greater, so that equal ones keep their order
abbrev pub put_in : (Val → Val → Ordering) → Val → List Val → List Val
put_in order x [] = x ∷ []
put_in order x (y ∷ ys) = if is_gt (order y x) then x ∷ y ∷ ys else y ∷ put_in order x ys

abbrev pub sort_from : (Val → Val → Ordering) → List Val → List Val → List Val
sort_from order done [] = done
sort_from order done (x ∷ xs) = sort_from order (put_in order x done) xs

abbrev pub reverse_if : Bool → List Val → List Val
reverse_if r xs = if r then reverse xs else xs

abbrev pub sorted_list : Val → Bool → Does Store Val
sorted_list x r = the_items x >>= λ xs s. if are_alike s xs then makes_list (reverse_if r (sort_from (plain_order s) [] xs)) s else faults WRONG_TYPE

abbrev pub sorted_by : Val → Val → Does Store Val
sorted_by x v.True = sorted_list x true
sorted_by x v.False = sorted_list x false
sorted_by x r = fault WRONG_TYPE

-- `sorted(x, reverse = False)`
abbrev pub sort : List Val → KeywordArguments → Does Store Val
sort (x ∷ []) [] = sorted_list x false
sort (x ∷ []) (n ∷ []) = if same_text n.0 (codes "reverse") then sorted_by x n.1 else fault WRONG_ARGUMENTS
sort xs ns = fault WRONG_ARGUMENTS

-- pairs of a place and a member, as new tuples
abbrev pub index_pairs : ℕ → List Val → Does Store (List Val)
index_pairs n [] = pure []
index_pairs n (x ∷ xs) = makes_tuple (v.Int (pos n) ∷ x ∷ []) >>= λ p. index_pairs (suc n) xs >>= λ ps. pure (p ∷ ps)

-- the first members, where each list has one
abbrev pub heads : List (List Val) → Option (List Val)
heads [] = Some []
heads ([] ∷ ls) = None
heads ((x ∷ xs) ∷ ls) = option_map (λ hs. x ∷ hs) (heads ls)

abbrev pub first_row : Option (List Val) → List (List Val) → List (List Val)
first_row None more = []
first_row (Some r) more = r ∷ more

abbrev pub rows : ℕ → List (List Val) → List (List Val)
rows zero ls = []
rows (suc n) ls = first_row (heads ls) (rows n (map (drop 1) ls))

-- rows up to the end of the shortest list; no lists have no rows
abbrev pub zipped : List (List Val) → List (List Val)
zipped [] = []
zipped (l ∷ ls) = rows (length l) (l ∷ ls)

abbrev pub each_items : List Val → Does Store (List (List Val))
each_items [] = pure []
each_items (x ∷ xs) = the_items x >>= λ l. each_items xs >>= λ ls. pure (l ∷ ls)

abbrev pub makes_tuples : List (List Val) → Does Store (List Val)
makes_tuples [] = pure []
makes_tuples (r ∷ rs) = makes_tuple r >>= λ t. makes_tuples rs >>= λ ts. pure (t ∷ ts)

-- `min` keeps the first of the least, and `max` the first of the greatest
abbrev pub best : (Ordering → Bool) → (Val → Val → Ordering) → Val → List Val → Val
best better order x [] = x
best better order x (y ∷ ys) = best better order (if better (order y x) then y else x) ys

abbrev pub best_of : (Ordering → Bool) → List Val → Does Store Val
best_of better [] = fault WRONG_ARGUMENTS
best_of better (x ∷ xs) = λ s. if are_alike s (x ∷ xs) then gives (best better (plain_order s) x xs) s else faults WRONG_TYPE

abbrev pub extreme : (Ordering → Bool) → List Val → Does Store Val
extreme better [] = fault WRONG_ARGUMENTS
extreme better (x ∷ []) = the_items x >>= best_of better
extreme better (x ∷ y ∷ ys) = best_of better (x ∷ y ∷ ys)

abbrev pub any_true : Store → List Val → Bool
any_true s [] = false
any_true s (x ∷ xs) = if is_true x s then true else any_true s xs

abbrev pub all_true : Store → List Val → Bool
all_true s [] = true
all_true s (x ∷ xs) = if is_true x s then all_true s xs else false

-- sets a key of a dictionary that is being made
abbrev pub grows : Val → Val → Entries → Does Store Entries
grows k x es = hash k >>= λ parts. lift_fault (let more = with_key parts (record { key = k; value = x }) es in if is_sized (length more) then good more else bad TOO_LARGE)

abbrev pub add_all : List (Val × Val) → Entries → Does Store Entries
add_all [] es = pure es
add_all (p ∷ ps) es = grows p.0 p.1 es >>= add_all ps

abbrev pub two_of : List Val → ValueOrFault (Val × Val)
two_of (k ∷ x ∷ []) = good (k, x)
two_of xs = bad WRONG_TYPE

-- a list or tuple of two members
abbrev pub object_pair : Option Obj → ValueOrFault (Val × Val)
object_pair (Some (list members f)) = two_of members
object_pair (Some (tuple members)) = two_of members
object_pair object = bad WRONG_TYPE

abbrev pub pair_of : Val → Store → ValueOrFault (Val × Val)
pair_of (v.At a) s = object_pair (at a s)
pair_of x s = bad WRONG_TYPE

abbrev pub add_each : List Val → Entries → Does Store Entries
add_each [] es = pure es
add_each (x ∷ xs) es = (λ s. lift_fault (pair_of x s) s) >>= λ p. grows p.0 p.1 es >>= add_each xs

abbrev pub entries_of : Option Obj → Val → Does Store Entries
entries_of (Some (dict entries f)) x = add_all (map (λ e. (e.1.key, e.1.value)) entries) []
entries_of object x = the_items x >>= λ xs. add_each xs []

abbrev pub dict_from : List Val → Does Store Entries
dict_from [] = pure []
dict_from (v.At a ∷ []) = λ s. entries_of (at a s) (v.At a) s
dict_from xs = fault WRONG_TYPE

abbrev pub is_named : List ℕ → KeywordArguments → Bool
is_named n [] = false
is_named n (m ∷ ms) = if same_text n m.0 then true else is_named n ms

abbrev pub is_twice : KeywordArguments → Bool
is_twice [] = false
is_twice (n ∷ ns) = if is_named n.0 ns then true else is_twice ns

-- the names are string keys
abbrev pub add_named : KeywordArguments → Entries → Does Store Entries
add_named [] es = pure es
add_named (n ∷ ns) es = makes (text n.0) >>= λ k. grows k n.1 es >>= add_named ns

abbrev pub dict_of : List Val → KeywordArguments → Does Store Val
dict_of xs ns = if nat_le (length xs) 1 && not (is_twice ns) then (dict_from xs >>= add_named ns >>= makes_dict) else fault WRONG_ARGUMENTS

abbrev pub one : (Val → Does Store Val) → List Val → Does Store Val
one f (x ∷ []) = f x
one f xs = fault WRONG_ARGUMENTS

-- no argument, or one
abbrev pub at_most_one : Does Store Val → (Val → Does Store Val) → List Val → Does Store Val
at_most_one none f [] = none
at_most_one none f (x ∷ []) = f x
at_most_one none f xs = fault WRONG_ARGUMENTS

abbrev pub truth_of : Bool → Does Store Val
truth_of b = pure (bool_value b)

-- the functions that take no names
abbrev pub plain : Builtin → List Val → Does Store Val
plain b.Len xs = one len xs
plain b.Range xs = range xs
plain b.Str xs = one str xs
plain b.Repr xs = one repr xs
plain b.Type xs = one (λ x s. and_then (lift_fault (type_of x s) s) makes_text) xs
plain b.Reversed xs = one (λ x. the_items x >>= λ ys. makes_list (reverse ys)) xs
plain b.Enumerate xs = one (λ x. the_items x >>= index_pairs 0 >>= makes_list) xs
plain b.Zip xs = each_items xs >>= λ ls. makes_tuples (zipped ls) >>= makes_list
plain b.List xs = at_most_one (makes_list []) (λ x. the_items x >>= makes_list) xs
plain b.Tuple xs = at_most_one (makes_tuple []) (λ x. the_items x >>= makes_tuple) xs
plain b.Bool xs = at_most_one (truth_of false) (λ x s. truth_of (is_true x s) s) xs
plain b.Any xs = one (λ x. the_items x >>= λ ys s. truth_of (any_true s ys) s) xs
plain b.All xs = one (λ x. the_items x >>= λ ys s. truth_of (all_true s ys) s) xs
plain b.Min xs = extreme is_lt xs
plain b.Max xs = extreme is_gt xs
plain b.Fail xs = one (λ x. fault FAIL_CALLED) xs
plain f xs = fault WRONG_TYPE

abbrev pub unnamed : Builtin → List Val → KeywordArguments → Does Store Val
unnamed f xs [] = plain f xs
unnamed f xs (n ∷ ns) = fault WRONG_ARGUMENTS

-- a call of a built-in function that is not a package call
abbrev pub builtin : Builtin → List Val → KeywordArguments → Does Store Val
builtin b.Sorted xs ns = sort xs ns
builtin b.Dict xs ns = dict_of xs ns
builtin f xs ns = unnamed f xs ns
