-- The texts of values.
--
-- Each value visited is a step, keys and values of dictionaries too. A 65th container inside one another is fault 12.
use Rattle.std.specs.Prelude.{ℕ, zero, suc, ℤ, ◌==◌, Bool, true, false, List, [], ◌∷◌, ◌++◌, Option, Some, None, if◌then◌else◌, slice_get, codes}
use Rattle.std.specs.Fmt.{signed_decimal}
use Rattle.values_semantics.specs.declared.key.Part.{Part}
use Rattle.values_semantics.specs.declared.val.Val.{Val}
use Rattle.values_semantics.specs.declared.val.Entry.{Entry}
use Rattle.values_semantics.specs.declared.val.Val.TheVariants as v
use Rattle.values_semantics.specs.Outcome.{Does, ◌>>=◌, ◌>>◌, pure, fault, tick}
use Rattle.values_semantics.specs.Heap.{Entries, Obj, text, list, tuple, dict, function, Store, at, walks, makes_text}
use Rattle.values_semantics.specs.Builtins.{builtin_name, builtin_at}
use Rattle.values_semantics.specs.declared.faults.TheConstants.{TOO_DEEP, WRONG_TYPE}

-- one byte of a string between quotes: `\`, `"`, newline, return and tab are escaped
abbrev pub escaped : ℕ → List ℕ
escaped c = if c == 92 then codes "\\\\" else (if c == 34 then codes "\\\"" else (if c == 10 then codes "\\n" else (if c == 13 then codes "\\r" else (if c == 9 then codes "\\t" else c ∷ []))))

abbrev pub all_escaped : List ℕ → List ℕ
all_escaped [] = []
all_escaped (c ∷ cs) = escaped c ++ all_escaped cs

abbrev pub quoted : List ℕ → List ℕ
quoted bytes = 34 ∷ all_escaped bytes ++ 34 ∷ []

-- decimal, with `-` before a negative number
unfoldable pub int_text : ℤ → List ℕ
int_text n = signed_decimal n

abbrev pub bool_text : Bool → List ℕ
bool_text true = codes "True"
bool_text false = codes "False"

-- what a value is to a text: written directly, or with the texts of its members; a place that is not there is fault 5
pub data PrintShape : Type 0 where
  written : List ℕ → PrintShape
  listed : List Val → PrintShape
  tupled : List Val → PrintShape
  mapped : Entries → PrintShape
  absent : PrintShape

abbrev pub print_shape : Option Obj → PrintShape
print_shape (Some (text bytes)) = written (quoted bytes)
print_shape (Some (list members f)) = listed members
print_shape (Some (tuple members)) = tupled members
print_shape (Some (dict entries f)) = mapped entries
print_shape (Some (function label name)) = written (codes "<function " ++ name ++ codes ">")
print_shape None = absent

abbrev pub shown : List Obj → Val → PrintShape
shown heap v.Nothing = written (codes "None")
shown heap v.True = written (bool_text true)
shown heap v.False = written (bool_text false)
shown heap (v.Int n) = written (int_text n)
shown heap (v.Builtin n) = written (codes "<built-in " ++ builtin_name (builtin_at n) ++ codes ">")
shown heap (v.At place) = print_shape (slice_get heap place)

-- texts that follow others, with a comma and a space before each
abbrev pub following : {A : Type 0} → (A → Does ℕ (List ℕ)) → List A → Does ℕ (List ℕ)
following show [] = pure []
following show (x ∷ xs) = show x >>= λ t. following show xs >>= λ ts. pure (codes ", " ++ t ++ ts)

-- texts with a comma and a space between them
abbrev pub separated : {A : Type 0} → (A → Does ℕ (List ℕ)) → List A → Does ℕ (List ℕ)
separated show [] = pure []
separated show (x ∷ xs) = show x >>= λ t. following show xs >>= λ ts. pure (t ++ ts)

abbrev pub enclosed : List ℕ → Does ℕ (List ℕ) → List ℕ → Does ℕ (List ℕ)
enclosed before inner after = inner >>= λ t. pure (before ++ t ++ after)

-- a tuple of one has a comma after it
abbrev pub tuple_end : List Val → List ℕ
tuple_end (x ∷ []) = codes ",)"
tuple_end xs = codes ")"

abbrev pub entry_text : (Val → Does ℕ (List ℕ)) → Entry → Does ℕ (List ℕ)
entry_text print e = print e.key >>= λ k. print e.value >>= λ x. pure (k ++ codes ": " ++ x)

-- the text of a dictionary's entry
abbrev pub pair_text : (Val → Does ℕ (List ℕ)) → (List Part × Entry) → Does ℕ (List ℕ)
pair_text print e = entry_text print e.1

abbrev pub plain : List ℕ → Does ℕ (List ℕ)
plain t = tick >> pure t

-- what has members is entered by a step
abbrev pub container : List ℕ → Does ℕ (List ℕ) → List ℕ → Does ℕ (List ℕ)
container before inner after = tick >> enclosed before inner after

abbrev pub visit_shown : Option (Val → Does ℕ (List ℕ)) → PrintShape → Does ℕ (List ℕ)
visit_shown inner (written t) = plain t
visit_shown inner absent = tick >> fault WRONG_TYPE
visit_shown None (listed xs) = fault TOO_DEEP
visit_shown None (tupled xs) = fault TOO_DEEP
visit_shown None (mapped es) = fault TOO_DEEP
visit_shown (Some print) (listed xs) = container (codes "[") (separated print xs) (codes "]")
visit_shown (Some print) (tupled xs) = container (codes "(") (separated print xs) (tuple_end xs)
visit_shown (Some print) (mapped es) = container (codes "{") (separated (pair_text print) es) (codes "}")

unfoldable pub print : ℕ → List Obj → Val → Does ℕ (List ℕ)
print zero heap x = visit_shown None (shown heap x)
print (suc n) heap x = visit_shown (Some (print n heap)) (shown heap x)

-- the walk for what is in a container, if one more may be entered
unfoldable pub inner_print : ℕ → List Obj → Option (Val → Does ℕ (List ℕ))
inner_print zero heap = None
inner_print (suc n) heap = Some (print n heap)

-- `repr(x)`; the size of the text is tested at its end
abbrev pub repr : Val → Does Store Val
repr x = walks (λ heap. print 64 heap x) >>= makes_text

abbrev pub str_object : Option Obj → Val → Does Store Val
str_object (Some (text bytes)) x = pure x
str_object object x = repr x

-- `str(x)`, which returns a string itself, with no walk
abbrev pub str : Val → Does Store Val
str (v.At place) = λ s. str_object (at place s) (v.At place) s
str x = repr x
