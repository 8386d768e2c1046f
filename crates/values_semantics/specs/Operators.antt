-- Arithmetic, concatenation and repetition.
use Rattle.std.specs.Prelude.{ℕ, zero, suc, ℤ, pos, negsuc, ◌+ℤ◌, ◌-ℤ◌, ◌*ℤ◌, neg_ℤ, Bool, true, false, not, ◌==◌, List, [], ◌++◌, length, Option, Some, None}
use Rattle.std.specs.Ordering.{int_eq}
use Rattle.values_semantics.specs.declared.val.Val.{Val}
use Rattle.values_semantics.specs.declared.val.Val.TheVariants as v
use Rattle.values_semantics.specs.Outcome.{Does, pure, fault, lift_fault}
use Rattle.values_semantics.specs.Heap.{Obj, text, list, tuple, dict, function, Store, at, makes_text, makes_list, makes_tuple}
use Rattle.values_semantics.specs.Numbers.{whole, floor_div, floor_rem, unless_zero}
use Rattle.values_semantics.specs.declared.faults.TheConstants.{WRONG_TYPE}

-- two strings, two lists or two tuples, one after the other
abbrev pub joins : Option Obj → Option Obj → Does Store Val
joins (Some (text a)) (Some (text b)) = makes_text (a ++ b)
joins (Some (list a f)) (Some (list b g)) = makes_list (a ++ b)
joins (Some (tuple a)) (Some (tuple b)) = makes_tuple (a ++ b)
joins a b = fault WRONG_TYPE

-- `+` adds two ints, or joins two strings, lists or tuples into a new one
abbrev pub add : Val → Val → Does Store Val
add (v.Int x) (v.Int y) = whole (x +ℤ y)
add (v.At a) (v.At b) = λ s. joins (at a s) (at b s) s
add a b = fault WRONG_TYPE

abbrev pub subtract : Val → Val → Does Store Val
subtract (v.Int x) (v.Int y) = whole (x -ℤ y)
subtract a b = fault WRONG_TYPE

abbrev pub times : {A : Type 0} → ℕ → List A → List A
times zero xs = []
times (suc n) xs = xs ++ times n xs

-- a negative number repeats nothing
abbrev pub repeated : {A : Type 0} → List A → ℤ → List A
repeated xs (pos n) = times n xs
repeated xs (negsuc n) = []

abbrev pub repeats : Option Obj → ℤ → Does Store Val
repeats (Some (text a)) n = makes_text (repeated a n)
repeats (Some (list a f)) n = makes_list (repeated a n)
repeats (Some (tuple a)) n = makes_tuple (repeated a n)
repeats a n = fault WRONG_TYPE

-- `*` multiplies two ints, or repeats a string, list or tuple by an int on either side
abbrev pub multiply : Val → Val → Does Store Val
multiply (v.Int x) (v.Int y) = whole (x *ℤ y)
multiply (v.At a) (v.Int n) = λ s. repeats (at a s) n s
multiply (v.Int n) (v.At a) = λ s. repeats (at a s) n s
multiply a b = fault WRONG_TYPE

abbrev pub divide : Val → Val → Does Store Val
divide (v.Int x) (v.Int y) = lift_fault (unless_zero y (floor_div x y))
divide a b = fault WRONG_TYPE

abbrev pub remainder : Val → Val → Does Store Val
remainder (v.Int x) (v.Int y) = lift_fault (unless_zero y (floor_rem x y))
remainder a b = fault WRONG_TYPE

-- `-x` and `+x` are defined for ints alone
abbrev pub negate : Val → Does Store Val
negate (v.Int x) = whole (neg_ℤ x)
negate a = fault WRONG_TYPE

abbrev pub plus : Val → Does Store Val
plus (v.Int x) = pure (v.Int x)
plus a = fault WRONG_TYPE

abbrev pub is_nonempty : {A : Type 0} → List A → Bool
is_nonempty xs = not (length xs == 0)

abbrev pub object_is_true : Option Obj → Bool
object_is_true (Some (text bytes)) = is_nonempty bytes
object_is_true (Some (list members f)) = is_nonempty members
object_is_true (Some (tuple members)) = is_nonempty members
object_is_true (Some (dict entries f)) = is_nonempty entries
object_is_true (Some (function label name)) = true
object_is_true None = false

-- None, False, 0 and the empty string, list, tuple and dictionary are false
abbrev pub is_true : Val → Store → Bool
is_true v.Nothing s = false
is_true v.True s = true
is_true v.False s = false
is_true (v.Int n) s = not (int_eq n (pos 0))
is_true (v.Builtin n) s = true
is_true (v.At a) s = object_is_true (at a s)
