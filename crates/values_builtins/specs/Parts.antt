-- The built-in functions one by one, by the arguments that each takes.
use Rattle.std.specs.Prelude.{List, reverse}
use Rattle.values_semantics.specs.declared.val.Val.{Val}
use Rattle.values_semantics.specs.Outcome.{Does, ◌>>=◌, and_then, lift_fault}
use Rattle.values_semantics.specs.Heap.{Store, makes_text, makes_list, makes_tuple}
use Rattle.values_semantics.specs.Functions.{the_items, type_of, any_true, all_true, truth_of, index_pairs, each_items, zipped, makes_tuples}

abbrev pub type_text : Val → Does Store Val
type_text x s = and_then (lift_fault (type_of x s) s) makes_text

abbrev pub list_from : Val → Does Store Val
list_from x = the_items x >>= makes_list

abbrev pub tuple_from : Val → Does Store Val
tuple_from x = the_items x >>= makes_tuple

abbrev pub reversed_from : Val → Does Store Val
reversed_from x = the_items x >>= λ ys. makes_list (reverse ys)

abbrev pub enumerate_from : Val → Does Store Val
enumerate_from x = the_items x >>= index_pairs 0 >>= makes_list

abbrev pub any_from : Val → Does Store Val
any_from x = the_items x >>= λ ys s. truth_of (any_true s ys) s

abbrev pub all_from : Val → Does Store Val
all_from x = the_items x >>= λ ys s. truth_of (all_true s ys) s

abbrev pub zip_from : List Val → Does Store Val
zip_from xs = each_items xs >>= λ ls. makes_tuples (zipped ls) >>= makes_list
