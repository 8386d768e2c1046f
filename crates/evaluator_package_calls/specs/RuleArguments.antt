-- The arguments of a rule in memory, each at the place of its parameter, and the values of its attributes, read one
-- after the other.
use Rattle.std.specs.Prelude.{◌≡◌, ◌⊎◌, ℕ, Bool, true, false, List, [], ◌∷◌, Option, Some, None, slice_get, if◌then◌else◌}
use Rattle.labels.specs.Paths.{is_path}
use Rattle.values_semantics.specs.declared.val.Val.{Val}
use Rattle.values_semantics.specs.declared.val.Val.TheVariants as v
use Rattle.values_semantics.specs.declared.builtin.Builtin.{Builtin}
use Rattle.values_semantics.specs.declared.faults.TheConstants.{BAD_LABEL, WRONG_TYPE}
use Rattle.values_semantics.specs.Builtins.{builtin_name}
use Rattle.values_semantics.specs.Heap.{Obj, list, Store, at}
use Rattle.values_semantics.specs.Outcome.{ValueOrFault, good, bad, then_checked}
use Rattle.values_semantics.specs.Functions.{KeywordArguments, is_named}
use Rattle.values_semantics.specs.Methods.{bytes_of}
use Rattle.values_modules.specs.Values.{Attribute, several, Target}
use Rattle.evaluator_semantics.specs.Names.{has_name}
use Rattle.evaluator_semantics.specs.Arguments.{value_named}
use Rattle.evaluator_semantics.specs.Rules.{Shape, Shapes, labels, RuleArgument, typed, typed_if, label_in, as_shape, name_text, makes_target}
use Rattle.evaluator_package_calls.specs.Fields.{field_name, field_shape, place_of, shape_of, shapes, known_names}
use Rattle.evaluator_package_calls.specs.declared.fields.Field.{Field}
use Rattle.evaluator_package_calls.specs.declared.fields.Field.TheVariants as d
use Rattle.evaluator_package_calls.specs.declared.slots.Placement.{Placement}
use Rattle.evaluator_package_calls.specs.declared.slots.Placement.TheVariants as t

-- the place of each parameter has the value that the arguments give it
abbrev pub HasValues : KeywordArguments → List (Option Val) → Type 0
HasValues ns slots = (x : Field) → slice_get slots (place_of x) ≡ Some (value_named (field_name x) ns)

-- a rule takes an argument None under any name, and another one under the name of a parameter that it has
abbrev pub is_taken : List ℕ → Val → Shapes → Bool
is_taken name v.Nothing shapes = true
is_taken name x shapes = has_name name (known_names shapes)

-- what is known of one argument more, before others: it is known and none of them has its name, it is None under a name
-- that no parameter has, or it is refused
abbrev pub Takes : List ℕ → Val → Shapes → KeywordArguments → List (Option Val) → Placement → Type 0
Takes name x shapes ns slots t.Known = (is_named name ns ≡ false) × (is_taken name x shapes ≡ true) × HasValues ((name, x) ∷ ns) slots
Takes name x shapes ns slots t.Unknown = (is_taken name x shapes ≡ true) × HasValues ((name, x) ∷ ns) slots
Takes name x shapes ns slots t.Refused = (is_named name ns ≡ true) ⊎ (is_taken name x shapes ≡ false)

-- a parameter's value, where None counts as absent

abbrev pub given : Option (Option Val) → Option Val
given None = None
given (Some None) = None
given (Some (Some v.Nothing)) = None
given (Some (Some x)) = Some x

abbrev pub value_at : List (Option Val) → Field → Option Val
value_at slots x = given (slice_get slots (place_of x))

-- the attributes of a call, in byte order, by their types
abbrev pub typed_fields : List Field → List (Option Val) → Store → ValueOrFault (List RuleArgument)
typed_fields [] slots s = good []
typed_fields (x ∷ xs) slots s = typed_if (shape_of x) (value_at slots x) s (typed_fields xs slots s)

-- a list of labels, each read as it comes

abbrev pub labels_each : List ℕ → List Val → Store → ValueOrFault (List (List ℕ))
labels_each package_name [] s = good []
labels_each package_name (x ∷ xs) s =
    then_checked (bytes_of x s) (λ t. then_checked (label_in package_name t) (λ l. then_checked (labels_each package_name xs s) (λ ls. good (l ∷ ls))))

abbrev pub object_labels : List ℕ → Option Obj → Store → ValueOrFault (List (List ℕ))
object_labels package_name (Some (list members f)) s = labels_each package_name members s
object_labels package_name object s = bad WRONG_TYPE

abbrev pub labels_at : List ℕ → Val → Store → ValueOrFault (List (List ℕ))
labels_at package_name (v.At a) s = object_labels package_name (at a s) s
labels_at package_name x s = bad WRONG_TYPE

-- the value of an attribute, read in the package
abbrev pub read_as : List ℕ → Shape → Val → Store → ValueOrFault Attribute
read_as package_name labels x s = then_checked (labels_at package_name x s) (λ ls. good (several ls))
read_as package_name shape x s = then_checked (typed shape x s) (as_shape package_name shape)

abbrev pub read_if : List ℕ → Field → Option Val → Store → ValueOrFault (List (List ℕ × Attribute)) → ValueOrFault (List (List ℕ × Attribute))
read_if package_name x None s rest = rest
read_if package_name x (Some y) s rest = then_checked (read_as package_name (field_shape x) y s) (λ a. then_checked rest (λ more. good ((field_name x, a) ∷ more)))

-- the attributes of a call, in byte order, one after the other
abbrev pub read_fields : List ℕ → List Field → List (Option Val) → Store → ValueOrFault (List (List ℕ × Attribute))
read_fields package_name [] slots s = good []
read_fields package_name (x ∷ xs) slots s = read_if package_name x (value_at slots x) s (read_fields package_name xs slots s)

-- the target that arguments at their places describe, and the same of a name that is read
abbrev pub described : Builtin → List ℕ → List Field → List (Option Val) → Store → ValueOrFault Target
described f package_name fields slots s =
    then_checked (name_text (value_at slots d.Name) s) (λ name. then_checked (typed_fields fields slots s) (makes_target (builtin_name f) package_name name))

abbrev pub target_read : List ℕ → List ℕ → List ℕ → List Field → List (Option Val) → Store → ValueOrFault Target
target_read kind package_name name fields slots s =
    if is_path name then then_checked (read_fields package_name fields slots s) (λ attributes. good (record { kind = kind; name = name; attributes = attributes }))
    else bad BAD_LABEL
