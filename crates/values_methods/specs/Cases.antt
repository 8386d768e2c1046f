-- The methods of what is at a place, one by one.
use Rattle.std.specs.Prelude.{ℕ, List, [], ◌∷◌, ◌++◌, length, map, Option, Some, if◌then◌else◌, codes, unwrap_or}
use Rattle.values_semantics.specs.declared.key.Part.{Part}
use Rattle.values_semantics.specs.declared.val.Val.{Val}
use Rattle.values_semantics.specs.declared.val.Val.TheVariants as v
use Rattle.values_semantics.specs.declared.val.Entry.{Entry}
use Rattle.values_semantics.specs.Outcome.{Does, ◌>>=◌, ◌>>◌, pure, fault, ValueOrFault, good, bad, lift_fault}
use Rattle.values_semantics.specs.Heap.{Entries, Obj, list, dict, Store, at, is_sized, puts, makes_list, makes_tuple, makes_text}
use Rattle.values_semantics.specs.Comparing.{same_text, entry_at}
use Rattle.values_semantics.specs.Operators.{add}
use Rattle.values_semantics.specs.Indexing.{hash, keys_of, value_of}
use Rattle.values_semantics.specs.Membership.{begins}
use Rattle.values_semantics.specs.Functions.{the_items}
use Rattle.values_semantics.specs.Methods.{adds, add_in_place, nothing_after, the_bytes, all_bytes, with_between, ends, stripped, split, replace, joins_items}
use Rattle.values_semantics.specs.declared.faults.TheConstants.{TOO_LARGE, WRONG_ARGUMENTS, WRONG_TYPE}
use Rattle.values_semantics.specs.Values.{bool_value}

-- members at the end of a list that may be changed, or fault 13
abbrev pub extended : ℕ → Option Obj → List Val → Does Store (Unit {0})
extended a (Some (list members f)) more = if is_sized (length (members ++ more)) then puts a (list (members ++ more) f) else fault TOO_LARGE
extended a object more = fault WRONG_TYPE

-- `+`, in place where both are lists
abbrev pub objects_added : ℕ → Option Obj → ℕ → Option Obj → Does Store Val
objects_added a x b y = add_in_place a x b y (add (v.At a) (v.At b))

abbrev pub added : Val → Val → Does Store Val
added (v.At a) (v.At b) = λ s. objects_added a (at a s) b (at b s) s
added x y = add x y

abbrev pub append_to : ℕ → Option Obj → List Val → Does Store Val
append_to a object (x ∷ []) = nothing_after (adds a object (x ∷ []))
append_to a object xs = fault WRONG_ARGUMENTS

-- members that were taken, after those of the list
abbrev pub with_members : ℕ → Option Obj → List Val → Does Store Val
with_members a object ys = nothing_after (adds a object ys)

abbrev pub extend_to : ℕ → Option Obj → List Val → Does Store Val
extend_to a object (x ∷ []) = the_items x >>= with_members a object
extend_to a object xs = fault WRONG_ARGUMENTS

abbrev pub of_list : ℕ → Option Obj → List ℕ → List Val → Does Store Val
of_list a object name xs =
    if same_text name (codes "append") then append_to a object xs
    else (if same_text name (codes "extend") then extend_to a object xs else fault WRONG_TYPE)

abbrev pub entry_list : Entries → List Entry
entry_list entries = map (λ e. e.1) entries

-- a key and its value, as a new tuple
abbrev pub entry_tuple : Entry → Does Store Val
entry_tuple e = makes_tuple (e.key ∷ e.value ∷ [])

abbrev pub entry_tuples : List Entry → Does Store (List Val)
entry_tuples [] = pure []
entry_tuples (e ∷ es) = entry_tuple e >>= λ t. entry_tuples es >>= λ ts. pure (t ∷ ts)

abbrev pub found_other : Option Obj → Val → List Part → Does Store Val
found_other (Some (dict entries f)) other k = pure (unwrap_or (value_of (entry_at k entries)) other)
found_other object other k = fault WRONG_TYPE

-- the value at a key, or another one
unfoldable pub get_other : Option Obj → Val → Val → Does Store Val
get_other object k other = hash k >>= found_other object other

abbrev pub get_of : Option Obj → List Val → Does Store Val
get_of object (k ∷ []) = get_other object k v.Nothing
get_of object (k ∷ other ∷ []) = get_other object k other
get_of object xs = fault WRONG_ARGUMENTS

abbrev pub get_at : Option Obj → List Val → Does Store Val
get_at (Some (dict entries f)) xs = get_of (Some (dict entries f)) xs
get_at object xs = fault WRONG_TYPE

abbrev pub keys_at : Option Obj → Does Store Val
keys_at (Some (dict entries f)) = makes_list (keys_of entries)
keys_at object = fault WRONG_TYPE

abbrev pub values_at : Option Obj → Does Store Val
values_at (Some (dict entries f)) = makes_list (map (λ e. e.value) (entry_list entries))
values_at object = fault WRONG_TYPE

abbrev pub items_at : Option Obj → Does Store Val
items_at (Some (dict entries f)) = entry_tuples (entry_list entries) >>= makes_list
items_at object = fault WRONG_TYPE

abbrev pub without_arguments : List Val → ValueOrFault (Unit {0})
without_arguments [] = good tt
without_arguments (x ∷ xs) = bad WRONG_ARGUMENTS

abbrev pub alone : Does Store Val → List Val → Does Store Val
alone m xs = lift_fault (without_arguments xs) >> m

abbrev pub of_dict : Option Obj → List ℕ → List Val → Does Store Val
of_dict object name xs =
    if same_text name (codes "get") then get_at object xs
    else (if same_text name (codes "keys") then alone (keys_at object) xs
    else (if same_text name (codes "values") then alone (values_at object) xs
    else (if same_text name (codes "items") then alone (items_at object) xs else fault WRONG_TYPE)))

-- the bytes of the only argument
abbrev pub only_text : List Val → Does Store (List ℕ)
only_text (x ∷ []) = the_bytes x
only_text xs = fault WRONG_ARGUMENTS

-- whether all of these are texts
abbrev pub are_texts : List Val → Does Store (Unit {0})
are_texts xs = all_bytes xs >> pure tt

-- a text if it is not too long
abbrev pub sized_text : List ℕ → Does Store (List ℕ)
sized_text bytes = if is_sized (length bytes) then pure bytes else fault TOO_LARGE

-- the texts of values with another one between them
abbrev pub joined : List ℕ → List Val → Does Store (List ℕ)
joined sep xs = all_bytes xs >>= λ ts. sized_text (with_between sep ts)

-- `split` by what the only argument says
abbrev pub split_only : List ℕ → List Val → Does Store Val
split_only whole xs = only_text xs >>= split whole

abbrev pub of_text : List ℕ → List ℕ → List Val → Does Store Val
of_text bytes name xs =
    if same_text name (codes "startswith") then (only_text xs >>= λ t. pure (bool_value (begins t bytes)))
    else (if same_text name (codes "endswith") then (only_text xs >>= λ t. pure (bool_value (ends t bytes)))
    else (if same_text name (codes "join") then joins_items bytes xs
    else (if same_text name (codes "split") then split_only bytes xs
    else (if same_text name (codes "replace") then replace bytes xs
    else (if same_text name (codes "strip") then alone (makes_text (stripped bytes)) xs else fault WRONG_TYPE)))))
