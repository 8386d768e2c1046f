-- Built-in functions and methods never have more steps left than they began with.
use Rattle.std.proofs.Common.{ℕ, suc, ℤ, pos, List, [], ◌∷◌, Bool, false, Option, Some, map, reverse, length, true}
use Rattle.std.specs.Prelude.{◌&&◌, not, nat_le, codes}
use Rattle.std.specs.Ordering.{int_eq, is_lt, is_gt}
use Rattle.std.specs.declared.cmp.Ordering.{Ordering}
use Rattle.values_semantics.specs.declared.val.Val.{Val}
use Rattle.values_semantics.specs.declared.val.Val.TheVariants as v
use Rattle.values_semantics.specs.declared.builtin.Builtin.{Builtin}
use Rattle.values_semantics.specs.declared.builtin.Builtin.TheVariants as b
use Rattle.values_semantics.specs.Outcome.{gives, faults, Does, and_then, ◌>>=◌, lift_fault, fault}
use Rattle.values_semantics.specs.Heap.{Obj, text, dict, Entries, Store, at, makes, makes_text, makes_list, makes_tuple, makes_dict, is_sized}
use Rattle.values_semantics.specs.Printing.{print, repr, str_object, str}
use Rattle.values_semantics.specs.Comparing.{same_text}
use Rattle.values_semantics.specs.Indexing.{with_key, items, hash}
use Rattle.values_semantics.specs.Functions.{KeywordArguments, the_items, length_of, len, range_count, numbers, range_list, range_by, range, type_of, plain_order, are_alike, sort_from, reverse_if, sorted_list, sorted_by, sort, index_pairs, zipped, each_items, makes_tuples, best, best_of, extreme, grows, add_all, pair_of, add_each, entries_of, dict_from, is_twice, add_named, dict_of, one, at_most_one, truth_of, plain, unnamed, builtin}
use Rattle.values_semantics.specs.Freezing as z
use Rattle.values_semantics.specs.Freezing.{Fz, Fzs, Pairs, thaw, thaw_members, thaw_pairs}
use Rattle.evaluator_semantics.proofs.WalkSteps.{print_falls}
use Rattle.evaluator_semantics.proofs.HeapSteps.{Lowers, d_pure, d_fault, d_then, d_if, d_choice, d_checked, d_walks, d_makes, d_text, d_list, d_tuple, d_dict, hash_down}

-- ---- functions

pub the_items_down : (x : Val) → Lowers (the_items x)
the_items_down x s = d_checked (items x s) s

len_down : (x : Val) → Lowers (len x)
len_down (v.At a) s = d_then s.steps (lift_fault (length_of (at a s)) s) _ (d_checked (length_of (at a s)) s) λ n t. d_pure _ t
len_down x s = d_fault 5 _

range_list_down : (from to step : ℤ) → Lowers (range_list from to step)
range_list_down from to step s = d_if (is_sized (range_count from to step)) (makes_list (numbers (range_count from to step) from step)) (fault 13) s s.steps (d_list _ s) (d_fault 13 _)

range_by_down : (from to step : Val) → Lowers (range_by from to step)
range_by_down (v.Int from) (v.Int to) (v.Int step) s = d_if (int_eq step (pos 0)) (fault 25) (range_list from to step) s s.steps (d_fault 25 _) (range_list_down from to step s)
range_by_down from to (v.Int step) s = d_if (int_eq step (pos 0)) (fault 25) (fault 5) s s.steps (d_fault 25 _) (d_fault 5 _)
range_by_down from to step s = d_fault 5 _

range_down : (xs : List Val) → Lowers (range xs)
range_down [] s = d_fault 25 _
range_down (to ∷ []) s = range_by_down (v.Int (pos 0)) to (v.Int (pos 1)) s
range_down (from ∷ to ∷ []) s = range_by_down from to (v.Int (pos 1)) s
range_down (from ∷ to ∷ step ∷ []) s = range_by_down from to step s
range_down (from ∷ to ∷ step ∷ x ∷ xs) s = d_fault 25 _

sorted_list_down : (x : Val) (r : Bool) → Lowers (sorted_list x r)
sorted_list_down x r s = d_then s.steps (the_items x s) _ (the_items_down x s) λ xs t. d_choice (are_alike t xs) t.steps (makes_list (reverse_if r (sort_from (plain_order t) [] xs)) t) (faults 5) (d_list _ t) (d_fault 5 _)

sorted_by_down : (x r : Val) → Lowers (sorted_by x r)
sorted_by_down x v.True s = sorted_list_down x true s
sorted_by_down x v.False s = sorted_list_down x false s
sorted_by_down x r s = d_fault 5 _

sorted_down : (xs : List Val) (ns : KeywordArguments) → Lowers (sort xs ns)
sorted_down [] ns s = d_fault 25 _
sorted_down (x ∷ []) [] s = sorted_list_down x false s
sorted_down (x ∷ []) (n ∷ []) s = d_if (same_text n.0 (codes "reverse")) (sorted_by x n.1) (fault 25) s s.steps (sorted_by_down x n.1 s) (d_fault 25 _)
sorted_down (x ∷ []) (n ∷ m ∷ ns) s = d_fault 25 _
sorted_down (x ∷ y ∷ xs) ns s = d_fault 25 _

numbered_down : (n : ℕ) (xs : List Val) → Lowers (index_pairs n xs)
numbered_down n [] s = d_pure _ s
numbered_down n (x ∷ xs) s = d_then s.steps (makes_tuple (v.Int (pos n) ∷ x ∷ []) s) _ (d_tuple (v.Int (pos n) ∷ x ∷ []) s) λ p t. d_then t.steps (index_pairs (suc n) xs t) _ (numbered_down (suc n) xs t) λ ps u. d_pure (p ∷ ps) u

each_items_down : (xs : List Val) → Lowers (each_items xs)
each_items_down [] s = d_pure _ s
each_items_down (x ∷ xs) s = d_then s.steps (the_items x s) _ (the_items_down x s) λ l t. d_then t.steps (each_items xs t) _ (each_items_down xs t) λ ls u. d_pure _ u

makes_tuples_down : (rs : List (List Val)) → Lowers (makes_tuples rs)
makes_tuples_down [] s = d_pure _ s
makes_tuples_down (r ∷ rs) s = d_then s.steps (makes_tuple r s) _ (d_tuple r s) λ l t. d_then t.steps (makes_tuples rs t) _ (makes_tuples_down rs t) λ ls u. d_pure _ u

best_of_down : (better : Ordering → Bool) (xs : List Val) → Lowers (best_of better xs)
best_of_down better [] s = d_fault 25 _
best_of_down better (x ∷ xs) s = d_choice (are_alike s (x ∷ xs)) s.steps (gives (best better (plain_order s) x xs) s) (faults 5) (d_pure _ s) (d_fault 5 _)

extreme_down : (better : Ordering → Bool) (xs : List Val) → Lowers (extreme better xs)
extreme_down better [] s = d_fault 25 _
extreme_down better (x ∷ []) s = d_then s.steps (the_items x s) _ (the_items_down x s) λ xs t. best_of_down better xs t
extreme_down better (x ∷ y ∷ ys) s = best_of_down better (x ∷ y ∷ ys) s

pub grows_down : (k x : Val) (es : Entries) → Lowers (grows k x es)
grows_down k x es s = d_then s.steps (hash k s) _ (hash_down k s) λ parts t. d_checked _ t

add_all_down : (ps : List (Val × Val)) (es : Entries) → Lowers (add_all ps es)
add_all_down [] es s = d_pure _ s
add_all_down (p ∷ ps) es s = d_then s.steps (grows p.0 p.1 es s) _ (grows_down p.0 p.1 es s) λ fs t. add_all_down ps fs t

add_each_down : (xs : List Val) (es : Entries) → Lowers (add_each xs es)
add_each_down [] es s = d_pure _ s
add_each_down (x ∷ xs) es s =
    d_then s.steps (lift_fault (pair_of x s) s) _ (d_checked (pair_of x s) s) λ p t. d_then t.steps (grows p.0 p.1 es t) (add_each xs) (grows_down p.0 p.1 es t) λ fs u. add_each_down xs fs u

entries_of_down : (object : Option Obj) (x : Val) → Lowers (entries_of object x)
entries_of_down (Some (dict es f)) x s = add_all_down (map (λ e. (e.1.key, e.1.value)) es) [] s
entries_of_down object x s = d_then s.steps (the_items x s) _ (the_items_down x s) λ xs t. add_each_down xs [] t

dict_from_down : (xs : List Val) → Lowers (dict_from xs)
dict_from_down [] s = d_pure _ s
dict_from_down (v.At a ∷ []) s = entries_of_down (at a s) (v.At a) s
dict_from_down xs s = d_fault 5 _

add_named_down : (ns : KeywordArguments) (es : Entries) → Lowers (add_named ns es)
add_named_down [] es s = d_pure _ s
add_named_down (n ∷ ns) es s =
    d_then s.steps (and_then (makes (text n.0) s) (λ k. grows k n.1 es)) _ (d_then s.steps (makes (text n.0) s) _ (d_makes (text n.0) s) λ k t. grows_down k n.1 es t) λ fs u. add_named_down ns fs u

dict_of_down : (xs : List Val) (ns : KeywordArguments) → Lowers (dict_of xs ns)
dict_of_down xs ns s =
    d_if (nat_le (length xs) 1 && not (is_twice ns)) (dict_from xs >>= add_named ns >>= makes_dict) (fault 25) s s.steps
    (d_then s.steps (and_then (dict_from xs s) (add_named ns)) makes_dict (d_then s.steps (dict_from xs s) (add_named ns) (dict_from_down xs s) λ es t. add_named_down ns es t) d_dict) (d_fault 25 _)

one_down : (f : Val → Does Store Val) → ((x : Val) → Lowers (f x)) → (xs : List Val) → Lowers (one f xs)
one_down f h [] s = d_fault 25 _
one_down f h (x ∷ []) s = h x s
one_down f h (x ∷ y ∷ xs) s = d_fault 25 _

at_most_one_down : (m : Does Store Val) (f : Val → Does Store Val) → Lowers m → ((x : Val) → Lowers (f x)) → (xs : List Val) → Lowers (at_most_one m f xs)
at_most_one_down m f p h [] s = p s
at_most_one_down m f p h (x ∷ []) s = h x s
at_most_one_down m f p h (x ∷ y ∷ xs) s = d_fault 25 _

repr_down : (x : Val) → Lowers (repr x)
repr_down x s = d_then s.steps _ makes_text (d_walks (λ heap. print 64 heap x) (λ heap. print_falls 64 heap x) s) d_text

str_object_down : (object : Option Obj) (x : Val) → Lowers (str_object object x)
str_object_down (Some (text bytes)) x s = d_pure x s
str_object_down object x s = repr_down x s

str_down : (x : Val) → Lowers (str x)
str_down (v.At a) s = str_object_down (at a s) (v.At a) s
str_down x s = repr_down x s

plain_down : (f : Builtin) (xs : List Val) → Lowers (plain f xs)
plain_down b.Len xs s = one_down len len_down xs s
plain_down b.Range xs s = range_down xs s
plain_down b.Str xs s = one_down str str_down xs s
plain_down b.Repr xs s = one_down repr repr_down xs s
plain_down b.Type xs s = one_down _ (λ x t. d_then t.steps (lift_fault (type_of x t) t) makes_text (d_checked (type_of x t) t) d_text) xs s
plain_down b.Reversed xs s = one_down _ (λ x t. d_then t.steps (the_items x t) _ (the_items_down x t) λ ys u. d_list (reverse ys) u) xs s
plain_down b.Enumerate xs s = one_down _ (λ x t. d_then t.steps (and_then (the_items x t) (index_pairs 0)) makes_list (d_then t.steps (the_items x t) (index_pairs 0) (the_items_down x t) λ ys u. numbered_down 0 ys u) d_list) xs s
plain_down b.Zip xs s = d_then s.steps (each_items xs s) _ (each_items_down xs s) λ ls t. d_then t.steps (makes_tuples (zipped ls) t) makes_list (makes_tuples_down (zipped ls) t) d_list
plain_down b.List xs s = at_most_one_down (makes_list []) _ (d_list []) (λ x t. d_then t.steps (the_items x t) makes_list (the_items_down x t) d_list) xs s
plain_down b.Tuple xs s = at_most_one_down (makes_tuple []) _ (d_tuple []) (λ x t. d_then t.steps (the_items x t) makes_tuple (the_items_down x t) d_tuple) xs s
plain_down b.Bool xs s = at_most_one_down (truth_of false) _ (λ t. d_pure _ t) (λ x t. d_pure _ t) xs s
plain_down b.Any xs s = one_down _ (λ x t. d_then t.steps (the_items x t) _ (the_items_down x t) λ ys u. d_pure _ u) xs s
plain_down b.All xs s = one_down _ (λ x t. d_then t.steps (the_items x t) _ (the_items_down x t) λ ys u. d_pure _ u) xs s
plain_down b.Min xs s = extreme_down is_lt xs s
plain_down b.Max xs s = extreme_down is_gt xs s
plain_down b.Fail xs s = one_down (λ x. fault 24) (λ x t. d_fault 24 _) xs s
plain_down f xs s = d_fault 5 _

unnamed_down : (f : Builtin) (xs : List Val) (ns : KeywordArguments) → Lowers (unnamed f xs ns)
unnamed_down f xs [] s = plain_down f xs s
unnamed_down f xs (n ∷ ns) s = d_fault 25 _

pub builtin_down : (f : Builtin) (xs : List Val) (ns : KeywordArguments) → Lowers (builtin f xs ns)
builtin_down b.Sorted xs ns s = sorted_down xs ns s
builtin_down b.Dict xs ns s = dict_of_down xs ns s
builtin_down f xs ns s = unnamed_down f xs ns s

-- ---- frozen values

mutual
  pub thaw_down : (f : Fz) → Lowers (thaw f)
  thaw_down z.nothing s = d_pure _ s
  thaw_down (z.boolean c) s = d_pure _ s
  thaw_down (z.whole n) s = d_pure _ s
  thaw_down (z.built_in f) s = d_pure _ s
  thaw_down (z.text bytes) s = d_makes _ s
  thaw_down (z.list fs) s = d_then s.steps (thaw_members fs s) _ (thaw_members_down fs s) λ xs t. d_makes _ t
  thaw_down (z.tuple fs) s = d_then s.steps (thaw_members fs s) _ (thaw_members_down fs s) λ xs t. d_makes _ t
  thaw_down (z.dict ps) s = d_then s.steps (thaw_pairs [] ps s) _ (thaw_pairs_down ps [] s) λ xs t. d_makes _ t
  thaw_down (z.function label name) s = d_makes _ s

  pub thaw_members_down : (fs : Fzs) → Lowers (thaw_members fs)
  thaw_members_down z.no_members s = d_pure _ s
  thaw_members_down (z.member f fs) s = d_then s.steps (thaw f s) _ (thaw_down f s) λ x t. d_then t.steps (thaw_members fs t) _ (thaw_members_down fs t) λ xs u. d_pure _ u

  pub thaw_pairs_down : (ps : Pairs) (es : Entries) → Lowers (thaw_pairs es ps)
  thaw_pairs_down z.no_pairs es s = d_pure _ s
  thaw_pairs_down (z.pair k f ps) es s =
      d_then s.steps (thaw k s) _ (thaw_down k s) λ x t. d_then t.steps (thaw f t) _ (thaw_down f t) λ y u. thaw_pairs_down ps (with_key (z.frozen_key k) (record { key = x; value = y }) es) u
