-- The methods of lists, dictionaries and strings. An unknown method is fault 5, then a wrong number of arguments or a
-- named one is 25, then a wrong type is 5.
use Rattle.std.specs.Prelude.{ℕ, zero, suc, ◌==◌, ◌||◌, Bool, false, List, [], ◌∷◌, ◌++◌, length, reverse, map, drop, Option, Some, if◌then◌else◌, codes, unwrap_or}
use Rattle.values_semantics.specs.declared.val.Val.{Val}
use Rattle.values_semantics.specs.declared.val.Val.TheVariants as v
use Rattle.values_semantics.specs.Values.{bool_value}
use Rattle.values_semantics.specs.Outcome.{Does, ◌>>=◌, ◌>>◌, pure, fault, ValueOrFault, good, bad, lift_fault}
use Rattle.values_semantics.specs.Heap.{Entries, Obj, text, list, dict, Store, at, makes_text, makes_list, makes_tuple, puts, is_sized}
use Rattle.values_semantics.specs.Comparing.{same_text, entry_at}
use Rattle.values_semantics.specs.Indexing.{hash, keys_of, value_of, may_change}
use Rattle.values_semantics.specs.Membership.{begins}
use Rattle.values_semantics.specs.Functions.{KeywordArguments, the_items}
use Rattle.values_semantics.specs.declared.faults.TheConstants.{TOO_LARGE, WRONG_ARGUMENTS, WRONG_TYPE}

-- members are added at the end of a list, in place: frozen 6, iterated 7, size 13
abbrev pub adds : ℕ → Option Obj → List Val → Does Store (Unit {0})
adds a (Some (list members f)) more = may_change a f >> (if is_sized (length (members ++ more)) then puts a (list (members ++ more) f) else fault TOO_LARGE)
adds a object more = fault WRONG_TYPE

-- None, after a change
abbrev pub nothing_after : Does Store (Unit {0}) → Does Store Val
nothing_after m = m >> pure v.Nothing

abbrev pub list_method : ℕ → Obj → List ℕ → List Val → Does Store Val
list_method a object name xs =
    if same_text name (codes "append") then append xs
    else (if same_text name (codes "extend") then extend xs else fault WRONG_TYPE)
  where
    append : List Val → Does Store Val
    append (x ∷ []) = nothing_after (adds a (Some object) (x ∷ []))
    append xs = fault WRONG_ARGUMENTS

    extend : List Val → Does Store Val
    extend (x ∷ []) = the_items x >>= λ ys. nothing_after (adds a (Some object) ys)
    extend xs = fault WRONG_ARGUMENTS

-- pairs of a key and its value, as new tuples
abbrev pub makes_items : Entries → Does Store (List Val)
makes_items [] = pure []
makes_items (e ∷ es) = makes_tuple (e.1.key ∷ e.1.value ∷ []) >>= λ t. makes_items es >>= λ ts. pure (t ∷ ts)

abbrev pub get_or_else : Entries → Val → Val → Does Store Val
get_or_else entries k other = hash k >>= λ parts. pure (unwrap_or (value_of (entry_at parts entries)) other)

abbrev pub get_from : Entries → List Val → Does Store Val
get_from entries (k ∷ []) = get_or_else entries k v.Nothing
get_from entries (k ∷ other ∷ []) = get_or_else entries k other
get_from entries xs = fault WRONG_ARGUMENTS

abbrev pub no_arguments : Does Store Val → List Val → Does Store Val
no_arguments m [] = m
no_arguments m (x ∷ xs) = fault WRONG_ARGUMENTS

abbrev pub dict_method : Entries → List ℕ → List Val → Does Store Val
dict_method entries name xs =
    if same_text name (codes "get") then get_from entries xs
    else (if same_text name (codes "keys") then no_arguments (makes_list (keys_of entries)) xs
    else (if same_text name (codes "values") then no_arguments (makes_list (map (λ e. e.1.value) entries)) xs
    else (if same_text name (codes "items") then no_arguments (makes_items entries >>= makes_list) xs else fault WRONG_TYPE)))

-- the bytes of a string
abbrev pub object_bytes : Option Obj → ValueOrFault (List ℕ)
object_bytes (Some (text bytes)) = good bytes
object_bytes object = bad WRONG_TYPE

abbrev pub bytes_of : Val → Store → ValueOrFault (List ℕ)
bytes_of (v.At a) s = object_bytes (at a s)
bytes_of x s = bad WRONG_TYPE

abbrev pub the_bytes : Val → Does Store (List ℕ)
the_bytes x s = lift_fault (bytes_of x s) s

abbrev pub all_bytes : List Val → Does Store (List (List ℕ))
all_bytes [] = pure []
all_bytes (x ∷ xs) = the_bytes x >>= λ t. all_bytes xs >>= λ ts. pure (t ∷ ts)

-- texts with another one between them
abbrev pub with_between : List ℕ → List (List ℕ) → List ℕ
with_between sep [] = []
with_between sep (t ∷ []) = t
with_between sep (t ∷ u ∷ ts) = t ++ sep ++ with_between sep (u ∷ ts)

-- the parts between separators, found from the left and not overlapping; each step takes a byte or more of the rest
abbrev pub parts : ℕ → List ℕ → List ℕ → List ℕ → List (List ℕ)
parts zero sep done rest = (done ++ rest) ∷ []
parts (suc n) sep done [] = done ∷ []
parts (suc n) sep done (c ∷ cs) = if begins sep (c ∷ cs) then done ∷ parts n sep [] (drop (length sep) (c ∷ cs)) else parts n sep (done ++ c ∷ []) cs

abbrev pub split_by : List ℕ → List ℕ → List (List ℕ)
split_by sep whole = parts (length whole) sep [] whole

abbrev pub is_space : ℕ → Bool
is_space c = c == 32 || (c == 9 || (c == 10 || c == 13))

abbrev pub without_spaces : List ℕ → List ℕ
without_spaces [] = []
without_spaces (c ∷ cs) = if is_space c then without_spaces cs else c ∷ cs

abbrev pub stripped : List ℕ → List ℕ
stripped bytes = reverse (without_spaces (reverse (without_spaces bytes)))

abbrev pub ends : List ℕ → List ℕ → Bool
ends part whole = begins (reverse part) (reverse whole)

abbrev pub makes_texts : List (List ℕ) → Does Store (List Val)
makes_texts [] = pure []
makes_texts (t ∷ ts) = makes_text t >>= λ x. makes_texts ts >>= λ xs. pure (x ∷ xs)

abbrev pub one_text : (List ℕ → Does Store Val) → List Val → Does Store Val
one_text f (x ∷ []) = the_bytes x >>= f
one_text f xs = fault WRONG_ARGUMENTS

-- an empty separator is fault 25
abbrev pub split : List ℕ → List ℕ → Does Store Val
split whole [] = fault WRONG_ARGUMENTS
split whole (c ∷ cs) = if is_sized (length (split_by (c ∷ cs) whole)) then (makes_texts (split_by (c ∷ cs) whole) >>= makes_list) else fault TOO_LARGE

abbrev pub replace_by : List ℕ → List ℕ → Val → Does Store Val
replace_by whole [] new = fault WRONG_ARGUMENTS
replace_by whole (c ∷ cs) new = the_bytes new >>= λ t. makes_text (with_between t (split_by (c ∷ cs) whole))

abbrev pub replace : List ℕ → List Val → Does Store Val
replace whole (old ∷ new ∷ []) = the_bytes old >>= λ o. replace_by whole o new
replace whole xs = fault WRONG_ARGUMENTS

abbrev pub joins_items : List ℕ → List Val → Does Store Val
joins_items sep (x ∷ []) = the_items x >>= all_bytes >>= λ ts. makes_text (with_between sep ts)
joins_items sep xs = fault WRONG_ARGUMENTS

abbrev pub text_method : List ℕ → List ℕ → List Val → Does Store Val
text_method bytes name xs =
    if same_text name (codes "startswith") then one_text (λ t. pure (bool_value (begins t bytes))) xs
    else (if same_text name (codes "endswith") then one_text (λ t. pure (bool_value (ends t bytes))) xs
    else (if same_text name (codes "join") then joins_items bytes xs
    else (if same_text name (codes "split") then one_text (split bytes) xs
    else (if same_text name (codes "replace") then replace bytes xs
    else (if same_text name (codes "strip") then no_arguments (makes_text (stripped bytes)) xs else fault WRONG_TYPE)))))

abbrev pub object_method : ℕ → Option Obj → List ℕ → List Val → Does Store Val
object_method a (Some (text bytes)) name xs = text_method bytes name xs
object_method a (Some (list members f)) name xs = list_method a (list members f) name xs
object_method a (Some (dict entries f)) name xs = dict_method entries name xs
object_method a object name xs = fault WRONG_TYPE

-- methods that an object has, whatever the arguments
abbrev pub has_method : Option Obj → List ℕ → Bool
has_method (Some (text bytes)) name = same_text name (codes "startswith") || (same_text name (codes "endswith") || (same_text name (codes "join") || (same_text name (codes "split") || (same_text name (codes "replace") || same_text name (codes "strip")))))
has_method (Some (list members f)) name = same_text name (codes "append") || same_text name (codes "extend")
has_method (Some (dict entries f)) name = same_text name (codes "get") || (same_text name (codes "keys") || (same_text name (codes "values") || same_text name (codes "items")))
has_method object name = false

abbrev pub called : ℕ → Option Obj → List ℕ → List Val → KeywordArguments → Does Store Val
called a object name xs [] = object_method a object name xs
called a object name xs (n ∷ ns) = if has_method object name then fault WRONG_ARGUMENTS else fault WRONG_TYPE

-- a call of a method
abbrev pub method : Val → List ℕ → List Val → KeywordArguments → Does Store Val
method (v.At a) name xs ns = λ s. called a (at a s) name xs ns s
method x name xs ns = fault WRONG_TYPE

-- `x += y` with two lists adds to x in place and returns it
abbrev pub add_in_place : ℕ → Option Obj → ℕ → Option Obj → Does Store Val → Does Store Val
add_in_place a (Some (list xs f)) b (Some (list ys g)) other = adds a (Some (list xs f)) ys >> pure (v.At a)
add_in_place a x b y other = other
