-- The rules: filegroup, genrule, alias and test_suite. They take named arguments only, make a target and return None.
--
-- Tested in order: a positional argument, an unknown name, a name that occurs twice or no `name` (25); types (5); a
-- text that is not a label or not a name (15); a name that a target has already (20). An argument None counts as
-- absent.
use Rattle.std.specs.Prelude.{ℕ, ◌==◌, ◌&&◌, Bool, true, false, not, List, [], ◌∷◌, ◌++◌, length, map, Option, Some, None, if◌then◌else◌, codes}
use Rattle.std.specs.List.{list_all}
use Rattle.labels.specs.Paths.{is_path}
use Rattle.labels.specs.Labels.{label_of, label_text}
use Rattle.values_semantics.specs.declared.val.Val.{Val}
use Rattle.values_semantics.specs.declared.val.Val.TheVariants as v
use Rattle.values_semantics.specs.declared.builtin.Builtin.{Builtin}
use Rattle.values_semantics.specs.declared.builtin.Builtin.TheVariants as b
use Rattle.values_semantics.specs.Builtins.{builtin_name}
use Rattle.values_semantics.specs.Outcome.{ValueOrFault, good, bad, then_checked, or_bad, lift_fault}
use Rattle.values_semantics.specs.Heap.{Store}
use Rattle.values_semantics.specs.Comparing.{same_text}
use Rattle.values_semantics.specs.Functions.{KeywordArguments, is_named, is_twice}
use Rattle.values_semantics.specs.Methods.{bytes_of}
use Rattle.values_semantics.specs.declared.faults.TheConstants.{BAD_LABEL, TARGET_TWICE, WRONG_ARGUMENTS}
use Rattle.values_modules.specs.Values.{Attribute, single, several, Target}
use Rattle.evaluator_semantics.specs.World.{Here, Runs, ◌>>=◌, fault, on_heap, ended}
use Rattle.evaluator_semantics.specs.Names.{has_name}
use Rattle.evaluator_semantics.specs.Arguments.{value_named}
use Rattle.evaluator_semantics.specs.Globs.{texts_in}

-- the shape of an attribute's value
pub data Shape : Type 0 where
  one_text : Shape
  one_label : Shape
  texts : Shape
  labels : Shape
  paths : Shape

abbrev pub Shapes : Type 0
Shapes = List (List ℕ × Shape)

-- the attributes of each rule other than `name`, in byte order
abbrev pub shapes_of : Builtin → Shapes
shapes_of b.Filegroup = (codes "data", labels) ∷ (codes "srcs", labels) ∷ (codes "tags", texts) ∷ (codes "visibility", texts) ∷ []
shapes_of b.Genrule = (codes "cmd", one_text) ∷ (codes "outs", paths) ∷ (codes "srcs", labels) ∷ (codes "tags", texts) ∷ (codes "tools", labels) ∷ (codes "visibility", texts) ∷ []
shapes_of b.Alias = (codes "actual", one_label) ∷ (codes "tags", texts) ∷ (codes "visibility", texts) ∷ []
shapes_of b.TestSuite = (codes "tags", texts) ∷ (codes "tests", labels) ∷ (codes "visibility", texts) ∷ []
shapes_of f = []

-- ---- the arguments

abbrev pub not_none : KeywordArguments → KeywordArguments
not_none [] = []
not_none ((n, v.Nothing) ∷ ns) = not_none ns
not_none (n ∷ ns) = n ∷ not_none ns

abbrev pub are_attributes : KeywordArguments → Shapes → Bool
are_attributes [] shapes = true
are_attributes (n ∷ ns) shapes = if has_name n.0 (codes "name" ∷ map (λ a. a.0) shapes) then are_attributes ns shapes else false

abbrev pub are_arguments : List Val → KeywordArguments → Shapes → Bool
are_arguments xs ns shapes = length xs == 0 && not (is_twice ns) && are_attributes (not_none ns) shapes && is_named (codes "name") (not_none ns)

-- ---- types

abbrev pub single_in : Val → Store → ValueOrFault Attribute
single_in x s = then_checked (bytes_of x s) (λ t. good (single t))

abbrev pub several_in : Val → Store → ValueOrFault Attribute
several_in x s = then_checked (texts_in x s) (λ ts. good (several ts))

-- the texts of an argument, copied: one, or a list of them
abbrev pub typed : Shape → Val → Store → ValueOrFault Attribute
typed one_text x s = single_in x s
typed one_label x s = single_in x s
typed texts x s = several_in x s
typed labels x s = several_in x s
typed paths x s = several_in x s

pub record RuleArgument : Type 0 where
  pub attribute : List ℕ
  pub shape : Shape
  pub texts : Attribute

abbrev pub typed_if : List ℕ × Shape → Option Val → Store → ValueOrFault (List RuleArgument) → ValueOrFault (List RuleArgument)
typed_if a None s rest = rest
typed_if a (Some x) s rest = then_checked (typed a.1 x s) (λ t. then_checked rest (λ gs. good (record { attribute = a.0; shape = a.1; texts = t } ∷ gs)))

-- the attributes of a call, in byte order
abbrev pub all_typed : Shapes → KeywordArguments → Store → ValueOrFault (List RuleArgument)
all_typed [] ns s = good []
all_typed (a ∷ shapes) ns s = typed_if a (value_named a.0 ns) s (all_typed shapes ns s)

-- ---- labels and paths

-- a label as its text, `//P:T`, read in the package
abbrev pub label_in : List ℕ → List ℕ → ValueOrFault (List ℕ)
label_in package_name text = then_checked (or_bad BAD_LABEL (label_of text package_name)) (λ t. good (label_text t))

abbrev pub labels_in : List ℕ → List (List ℕ) → ValueOrFault (List (List ℕ))
labels_in package_name [] = good []
labels_in package_name (t ∷ ts) = then_checked (label_in package_name t) (λ l. then_checked (labels_in package_name ts) (λ ls. good (l ∷ ls)))

abbrev pub as_shape : List ℕ → Shape → Attribute → ValueOrFault Attribute
as_shape package_name one_label (single t) = then_checked (label_in package_name t) (λ l. good (single l))
as_shape package_name labels (several ts) = then_checked (labels_in package_name ts) (λ ls. good (several ls))
as_shape package_name paths (several ts) = if list_all is_path ts then good (several ts) else bad BAD_LABEL
as_shape package_name shape a = good a

abbrev pub all_shaped : List ℕ → List RuleArgument → ValueOrFault (List (List ℕ × Attribute))
all_shaped package_name [] = good []
all_shaped package_name (g ∷ gs) = then_checked (as_shape package_name g.shape g.texts) (λ a. then_checked (all_shaped package_name gs) (λ rest. good ((g.attribute, a) ∷ rest)))

-- ---- the target

abbrev pub name_text : Option Val → Store → ValueOrFault (List ℕ)
name_text None s = bad WRONG_ARGUMENTS
name_text (Some x) s = bytes_of x s

abbrev pub makes_target : List ℕ → List ℕ → List ℕ → List RuleArgument → ValueOrFault Target
makes_target kind package_name name gs =
    if is_path name then then_checked (all_shaped package_name gs) (λ attributes. good (record { kind = kind; name = name; attributes = attributes }))
    else bad BAD_LABEL

-- the target that a call describes
abbrev pub target_of : Builtin → List ℕ → List Val → KeywordArguments → Store → ValueOrFault Target
target_of f package_name xs ns s =
    if are_arguments xs ns (shapes_of f)
    then then_checked (name_text (value_named (codes "name") (not_none ns)) s) (λ name. then_checked (all_typed (shapes_of f) (not_none ns) s) (makes_target (builtin_name f) package_name name))
    else bad WRONG_ARGUMENTS

abbrev pub is_used : List ℕ → List Target → Bool
is_used name [] = false
is_used name (t ∷ ts) = if same_text name t.name then true else is_used name ts

abbrev pub adds_target : Target → Here → Runs Val
adds_target target here = λ w. (if is_used target.name w.targets then fault TARGET_TWICE here else (λ u. ended v.Nothing (record u { targets = u.targets ++ target ∷ [] }))) w

unfoldable pub rule : Builtin → List ℕ → List Val → KeywordArguments → Here → Runs Val
rule f package_name xs ns here = on_heap here (λ s. lift_fault (target_of f package_name xs ns s) s) >>= λ target. adds_target target here
