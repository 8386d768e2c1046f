-- Values of the definitions, computed.
use Rattle.std.proofs.Common.{◌≡◌, ℕ, pos, negsuc, List, [], ◌∷◌, true, false, Some, None, refl, codes}
use Rattle.std.specs.declared.cmp.Ordering.TheVariants.{Less}
use Rattle.values_semantics.specs.declared.key.Part.TheVariants as p
use Rattle.values_semantics.specs.declared.val.Val.TheVariants as v
use Rattle.values_semantics.specs.Outcome.{gives, faults}
use Rattle.values_semantics.specs.Heap.{Obj, Store, text, list, tuple}
use Rattle.values_semantics.specs.Numbers.{floor_div, floor_rem}
use Rattle.values_semantics.specs.Operators.{add, divide, remainder}
use Rattle.values_semantics.specs.Hashing.{key}
use Rattle.std.specs.Fmt.{digits}
use Rattle.values_semantics.specs.Printing.{print, int_text}
use Rattle.values_semantics.specs.Freezing.{freeze}
use Rattle.values_semantics.specs.Functions.{range_count, range, zipped}
use Rattle.values_semantics.specs.Methods.{split_by, with_between, stripped}
use Rattle.values_semantics.specs.Comparing.{equal, order}
use Rattle.values_semantics.specs.Indexing.{place, bound, between}

-- -7 // 2 is -4, and -7 % 2 is 1
quotient : floor_div (negsuc 6) (pos 2) ≡ negsuc 3
quotient = refl

rest : floor_rem (negsuc 6) (pos 2) ≡ pos 1
rest = refl

-- 7 // -2 is -4, and 7 % -2 is -1
quotient_of_negative : floor_div (pos 7) (negsuc 1) ≡ negsuc 3
quotient_of_negative = refl

rest_of_negative : floor_rem (pos 7) (negsuc 1) ≡ negsuc 0
rest_of_negative = refl

-- -7 // -2 is 3, and -7 % -2 is -1
quotient_of_negatives : floor_div (negsuc 6) (negsuc 1) ≡ pos 3
quotient_of_negatives = refl

rest_of_negatives : floor_rem (negsuc 6) (negsuc 1) ≡ negsuc 0
rest_of_negatives = refl

empty : Store
empty = record { heap = []; iterated = []; steps = 100 }

-- 9223372036854775807 + 1 is fault 9, and so is the negation of the least int
too_large : (s : Store) → add (v.Int (pos 9223372036854775807)) (v.Int (pos 1)) s ≡ faults 9
too_large s = refl

least : (s : Store) → divide (v.Int (negsuc 9223372036854775807)) (v.Int (negsuc 0)) s ≡ faults 9
least s = refl

by_zero : (s : Store) → remainder (v.Int (pos 1)) (v.Int (pos 0)) s ≡ faults 10
by_zero s = refl

-- a bool is not an int
bool_added : (s : Store) → add v.True (v.Int (pos 1)) s ≡ faults 5
bool_added s = refl

-- the last of three is at 2, and -4 is nowhere
last : place (negsuc 0) 3 ≡ Some 2
last = refl

before_first : place (negsuc 3) 3 ≡ None
before_first = refl

-- x[-2:9] of three members has the last two
tail : between {A = ℕ} (1 ∷ 2 ∷ 3 ∷ []) (bound (negsuc 1) 3) (bound (pos 9) 3) ≡ 2 ∷ 3 ∷ []
tail = refl

-- x[2:1] is empty
crossed : between {A = ℕ} (1 ∷ 2 ∷ 3 ∷ []) (bound (pos 2) 3) (bound (pos 1) 3) ≡ []
crossed = refl

-- [1] == [1] takes two steps, and [1] < [2] three
one_each : List Obj
one_each = list (v.Int (pos 1) ∷ []) false ∷ list (v.Int (pos 2) ∷ []) false ∷ list (v.Int (pos 1) ∷ []) false ∷ []

equal_lists : equal 64 one_each (v.At 0) (v.At 2) 10 ≡ gives true 8
unfolding one_each equal
equal_lists = refl

lesser_list : order 64 one_each (v.At 0) (v.At 1) 10 ≡ gives Less 7
unfolding one_each equal order
lesser_list = refl

-- a list that has itself as its member is not compared to its end
endless : List Obj
endless = list (v.At 0 ∷ []) false ∷ []

endless_equal : equal 64 endless (v.At 0) (v.At 0) 1000 ≡ faults 12
unfolding endless equal
endless_equal = refl

-- (1, "a") as a key takes three steps; a list is not a key
pair_heap : List Obj
pair_heap = text (97 ∷ []) ∷ tuple (v.Int (pos 1) ∷ v.At 0 ∷ []) ∷ list [] false ∷ []

pair_key : key 64 pair_heap (v.At 1) 3 ≡ gives (p.Tuple 2 ∷ p.Int (pos 1) ∷ p.Text (97 ∷ []) ∷ []) 0
unfolding pair_heap key
pair_key = refl

list_key : key 64 pair_heap (v.At 2) 3 ≡ faults 5
unfolding pair_heap key
list_key = refl

-- "a,,b".split(",") has three parts, and "aaa".replace("aa", "x") is "xa"
splitted : split_by (codes ",") (codes "a,,b") ≡ codes "a" ∷ [] ∷ codes "b" ∷ []
splitted = refl

replaced : with_between (codes "x") (split_by (codes "aa") (codes "aaa")) ≡ codes "xa"
replaced = refl

bare : stripped (codes " \n a b\t") ≡ codes "a b"
bare = refl

-- repr([1, "a\n"]) is [1, "a\n"] with the newline escaped, and takes three steps
mixed : List Obj
mixed = text (97 ∷ 10 ∷ []) ∷ list (v.Int (pos 1) ∷ v.At 0 ∷ []) false ∷ tuple (v.Int (negsuc 6) ∷ []) ∷ []

mixed_text : print 64 mixed (v.At 1) 10 ≡ gives (codes "[1, \"a\\n\"]") 7
unfolding mixed print int_text digits
mixed_text = refl

-- repr((-7,)) is (-7,)
tuple_of_one : print 64 mixed (v.At 2) 10 ≡ gives (codes "(-7,)") 8
unfolding mixed print int_text digits
tuple_of_one = refl

least_text : int_text (negsuc 9223372036854775807) ≡ codes "-9223372036854775808"
unfolding int_text digits
least_text = refl

-- a list that has itself as its member is not printed or frozen to its end
endless_text : print 64 endless (v.At 0) 1000 ≡ faults 12
unfolding endless print
endless_text = refl

endless_frozen : freeze 64 endless (v.At 0) 1000 ≡ faults 12
unfolding endless freeze
endless_frozen = refl

-- range(0, 10, 3) and range(10, 0, -3) have four members, range(1, 1) none
upwards : range_count (pos 0) (pos 10) (pos 3) ≡ 4
upwards = refl

downwards : range_count (pos 10) (pos 0) (negsuc 2) ≡ 4
downwards = refl

none_between : range_count (pos 1) (pos 1) (pos 1) ≡ 0
none_between = refl

-- range(1, 2, 0) is fault 25, and so is range("a", 1, 0); range(1, 2, False) is fault 5
no_step : range (v.Int (pos 1) ∷ v.Int (pos 2) ∷ v.Int (pos 0) ∷ []) empty ≡ faults 25
no_step = refl

no_int_and_no_step : range (v.Nothing ∷ v.Int (pos 2) ∷ v.Int (pos 0) ∷ []) empty ≡ faults 25
no_int_and_no_step = refl

bool_step : range (v.Int (pos 1) ∷ v.Int (pos 2) ∷ v.False ∷ []) empty ≡ faults 5
bool_step = refl

-- zip of [1, 2] and [3] has one row, and zip() none
short_rows : zipped ((v.Int (pos 1) ∷ v.Int (pos 2) ∷ []) ∷ (v.Int (pos 3) ∷ []) ∷ []) ≡ (v.Int (pos 1) ∷ v.Int (pos 3) ∷ []) ∷ []
short_rows = refl
