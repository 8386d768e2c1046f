-- Methods never have more steps left than they began with.
use Rattle.std.proofs.Common.{ℕ, List, [], ◌∷◌, ◌++◌, Bool, Option, Some, map, length}
use Rattle.std.specs.Prelude.{codes}
use Rattle.values_semantics.specs.declared.val.Val.{Val}
use Rattle.values_semantics.specs.declared.val.Val.TheVariants as v
use Rattle.values_semantics.specs.Outcome.{Does, and_then, ◌>>=◌, fault, pure}
use Rattle.values_semantics.specs.Heap.{Obj, text, list, dict, Entries, Store, at, makes_text, makes_list, makes_tuple, is_sized, puts}
use Rattle.values_semantics.specs.Comparing.{same_text}
use Rattle.values_semantics.specs.Indexing.{hash, keys_of, may_change}
use Rattle.values_semantics.specs.Membership.{begins}
use Rattle.values_semantics.specs.Functions.{KeywordArguments, the_items}
use Rattle.values_semantics.specs.Methods.{adds, nothing_after, list_method, makes_items, get_or_else, get_from, no_arguments, dict_method, bytes_of, the_bytes, all_bytes, with_between, split_by, stripped, ends, makes_texts, one_text, split, replace_by, replace, joins_items, text_method, object_method, has_method, called, method, add_in_place}
use Rattle.evaluator_semantics.proofs.HeapSteps.{Lowers, d_pure, d_fault, d_then, d_if, d_checked, d_puts, d_text, d_list, d_tuple, hash_down, may_change_down}
use Rattle.evaluator_semantics.proofs.CallSteps.{the_items_down}
use Rattle.values_semantics.specs.Values.{bool_value}

pub adds_down : (a : ℕ) (object : Option Obj) (more : List Val) → Lowers (adds a object more)
adds_down a (Some (list xs f)) more s =
    d_then s.steps (may_change a f s) _ (may_change_down a f s) λ _ t. d_if (is_sized (length (xs ++ more))) (puts a (list (xs ++ more) f)) (fault 13) t t.steps (d_puts a _ t) (d_fault 13 _)
adds_down a object more s = d_fault 5 _

nothing_down : (m : Does Store (Unit {0})) → Lowers m → Lowers (nothing_after m)
nothing_down m h s = d_then s.steps (m s) _ (h s) λ _ t. d_pure v.Nothing t

list_method_down : (a : ℕ) (xs : List Val) (f : Bool) (name : List ℕ) (args : List Val) → Lowers (list_method a (list xs f) name args)
list_method_down a xs f name [] s = d_if (same_text name (codes "append")) _ _ s s.steps (d_fault 25 _) (d_if (same_text name (codes "extend")) (fault 25) (fault 5) s s.steps (d_fault 25 _) (d_fault 5 _))
list_method_down a xs f name (x ∷ []) s =
    d_if (same_text name (codes "append")) _ _ s s.steps (nothing_down _ (λ t. adds_down a (Some (list xs f)) (x ∷ []) t) s)
    (d_if (same_text name (codes "extend")) (the_items x >>= λ ys. nothing_after (adds a (Some (list xs f)) ys)) (fault 5) s s.steps (d_then s.steps (the_items x s) _ (the_items_down x s) λ ys t. nothing_down _ (λ u. adds_down a (Some (list xs f)) ys u) t) (d_fault 5 _))
list_method_down a xs f name (x ∷ y ∷ args) s = d_if (same_text name (codes "append")) _ _ s s.steps (d_fault 25 _) (d_if (same_text name (codes "extend")) (fault 25) (fault 5) s s.steps (d_fault 25 _) (d_fault 5 _))

makes_items_down : (es : Entries) → Lowers (makes_items es)
makes_items_down [] s = d_pure [] s
makes_items_down (e ∷ es) s = d_then s.steps (makes_tuple (e.1.key ∷ e.1.value ∷ []) s) _ (d_tuple (e.1.key ∷ e.1.value ∷ []) s) λ p t. d_then t.steps (makes_items es t) _ (makes_items_down es t) λ ps u. d_pure (p ∷ ps) u

get_or_else_down : (es : Entries) (k other : Val) → Lowers (get_or_else es k other)
get_or_else_down es k other s = d_then s.steps (hash k s) _ (hash_down k s) λ parts t. d_pure _ t

get_from_down : (es : Entries) (args : List Val) → Lowers (get_from es args)
get_from_down es [] s = d_fault 25 _
get_from_down es (k ∷ []) s = get_or_else_down es k v.Nothing s
get_from_down es (k ∷ other ∷ []) s = get_or_else_down es k other s
get_from_down es (k ∷ other ∷ x ∷ xs) s = d_fault 25 _

no_arguments_down : (m : Does Store Val) → Lowers m → (args : List Val) → Lowers (no_arguments m args)
no_arguments_down m h [] s = h s
no_arguments_down m h (x ∷ xs) s = d_fault 25 _

dict_method_down : (es : Entries) (name : List ℕ) (args : List Val) → Lowers (dict_method es name args)
dict_method_down es name args s =
    d_if (same_text name (codes "get")) _ _ s s.steps (get_from_down es args s)
    (d_if (same_text name (codes "keys")) _ _ s s.steps (no_arguments_down _ (d_list (keys_of es)) args s)
    (d_if (same_text name (codes "values")) _ _ s s.steps (no_arguments_down _ (d_list (map (λ e. e.1.value) es)) args s)
    (d_if (same_text name (codes "items")) (no_arguments (makes_items es >>= makes_list) args) (fault 5) s s.steps (no_arguments_down _ (λ t. d_then t.steps (makes_items es t) makes_list (makes_items_down es t) d_list) args s) (d_fault 5 _))))

the_bytes_down : (x : Val) → Lowers (the_bytes x)
the_bytes_down x s = d_checked (bytes_of x s) s

all_bytes_down : (xs : List Val) → Lowers (all_bytes xs)
all_bytes_down [] s = d_pure [] s
all_bytes_down (x ∷ xs) s = d_then s.steps (the_bytes x s) _ (the_bytes_down x s) λ b t. d_then t.steps (all_bytes xs t) _ (all_bytes_down xs t) λ bs u. d_pure (b ∷ bs) u

pub makes_texts_down : (ts : List (List ℕ)) → Lowers (makes_texts ts)
makes_texts_down [] s = d_pure [] s
makes_texts_down (x ∷ xs) s = d_then s.steps (makes_text x s) _ (d_text x s) λ b t. d_then t.steps (makes_texts xs t) _ (makes_texts_down xs t) λ bs u. d_pure (b ∷ bs) u

one_text_down : (f : List ℕ → Does Store Val) → ((t : List ℕ) → Lowers (f t)) → (args : List Val) → Lowers (one_text f args)
one_text_down f h [] s = d_fault 25 _
one_text_down f h (x ∷ []) s = d_then s.steps (the_bytes x s) f (the_bytes_down x s) h
one_text_down f h (x ∷ y ∷ args) s = d_fault 25 _

split_down : (whole sep : List ℕ) → Lowers (split whole sep)
split_down whole [] s = d_fault 25 _
split_down whole (c ∷ cs) s =
    d_if (is_sized (length (split_by (c ∷ cs) whole))) (makes_texts (split_by (c ∷ cs) whole) >>= makes_list) (fault 13) s s.steps
    (d_then s.steps (makes_texts (split_by (c ∷ cs) whole) s) makes_list (makes_texts_down (split_by (c ∷ cs) whole) s) d_list) (d_fault 13 _)

replace_by_down : (whole old : List ℕ) (new : Val) → Lowers (replace_by whole old new)
replace_by_down whole [] new s = d_fault 25 _
replace_by_down whole (c ∷ cs) new s = d_then s.steps (the_bytes new s) _ (the_bytes_down new s) λ t u. d_text _ u

replace_down : (whole : List ℕ) (args : List Val) → Lowers (replace whole args)
replace_down whole [] s = d_fault 25 _
replace_down whole (x ∷ []) s = d_fault 25 _
replace_down whole (old ∷ new ∷ []) s = d_then s.steps (the_bytes old s) _ (the_bytes_down old s) λ o t. replace_by_down whole o new t
replace_down whole (old ∷ new ∷ x ∷ xs) s = d_fault 25 _

joins_items_down : (sep : List ℕ) (args : List Val) → Lowers (joins_items sep args)
joins_items_down sep [] s = d_fault 25 _
joins_items_down sep (x ∷ []) s = d_then s.steps (and_then (the_items x s) all_bytes) _ (d_then s.steps (the_items x s) all_bytes (the_items_down x s) all_bytes_down) λ ts u. d_text (with_between sep ts) u
joins_items_down sep (x ∷ y ∷ xs) s = d_fault 25 _

text_method_down : (bytes name : List ℕ) (args : List Val) → Lowers (text_method bytes name args)
text_method_down bytes name args s =
    d_if (same_text name (codes "startswith")) _ _ s s.steps (one_text_down (λ t. pure (bool_value (begins t bytes))) (λ t u. d_pure _ u) args s)
    (d_if (same_text name (codes "endswith")) _ _ s s.steps (one_text_down (λ t. pure (bool_value (ends t bytes))) (λ t u. d_pure _ u) args s)
    (d_if (same_text name (codes "join")) _ _ s s.steps (joins_items_down bytes args s)
    (d_if (same_text name (codes "split")) _ _ s s.steps (one_text_down (split bytes) (split_down bytes) args s)
    (d_if (same_text name (codes "replace")) _ _ s s.steps (replace_down bytes args s)
    (d_if (same_text name (codes "strip")) (no_arguments (makes_text (stripped bytes)) args) (fault 5) s s.steps (no_arguments_down _ (d_text (stripped bytes)) args s) (d_fault 5 _))))))

object_method_down : (a : ℕ) (object : Option Obj) (name : List ℕ) (args : List Val) → Lowers (object_method a object name args)
object_method_down a (Some (text bytes)) name args s = text_method_down bytes name args s
object_method_down a (Some (list xs f)) name args s = list_method_down a xs f name args s
object_method_down a (Some (dict es f)) name args s = dict_method_down es name args s
object_method_down a object name args s = d_fault 5 _

called_down : (a : ℕ) (object : Option Obj) (name : List ℕ) (args : List Val) (ns : KeywordArguments) → Lowers (called a object name args ns)
called_down a object name args [] s = object_method_down a object name args s
called_down a object name args (n ∷ ns) s = d_if (has_method object name) (fault 25) (fault 5) s s.steps (d_fault 25 _) (d_fault 5 _)

pub method_down : (x : Val) (name : List ℕ) (args : List Val) (ns : KeywordArguments) → Lowers (method x name args ns)
method_down (v.At a) name args ns s = called_down a (at a s) name args ns s
method_down x name args ns s = d_fault 5 _

pub add_in_place_down : (a : ℕ) (x : Option Obj) (b : ℕ) (y : Option Obj) (other : Does Store Val) → Lowers other → Lowers (add_in_place a x b y other)
add_in_place_down a (Some (list xs f)) b (Some (list ys g)) other h s = d_then s.steps (adds a (Some (list xs f)) ys s) _ (adds_down a (Some (list xs f)) ys s) λ _ t. d_pure _ t
add_in_place_down a x b y other h s = h s
