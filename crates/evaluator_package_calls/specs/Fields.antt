-- The parameters of rules in memory: the target's name, and the attributes.
use Rattle.std.specs.Prelude.{◌≡◌, ℕ, List, [], ◌∷◌, map, codes, Option, Some, None, if◌then◌else◌}
use Rattle.values_semantics.specs.Comparing.{same_text}
use Rattle.evaluator_semantics.specs.Rules.{Shape, Shapes, one_text, one_label, texts, labels, paths}
use Rattle.evaluator_package_calls.specs.declared.fields.Field.{Field}
use Rattle.evaluator_package_calls.specs.declared.fields.Field.TheVariants as f

abbrev pub field_name : Field → List ℕ
field_name f.Actual = codes "actual"
field_name f.Cmd = codes "cmd"
field_name f.Data = codes "data"
field_name f.Name = codes "name"
field_name f.Outs = codes "outs"
field_name f.Srcs = codes "srcs"
field_name f.Tags = codes "tags"
field_name f.Tests = codes "tests"
field_name f.Tools = codes "tools"
field_name f.Visibility = codes "visibility"

abbrev pub field_shape : Field → Shape
field_shape f.Actual = one_label
field_shape f.Cmd = one_text
field_shape f.Data = labels
field_shape f.Name = one_text
field_shape f.Outs = paths
field_shape f.Srcs = labels
field_shape f.Tags = texts
field_shape f.Tests = labels
field_shape f.Tools = labels
field_shape f.Visibility = texts

abbrev pub shape_of : Field → List ℕ × Shape
shape_of x = (field_name x, field_shape x)

abbrev pub shapes : List Field → Shapes
shapes fields = map shape_of fields

-- the names that arguments may have
abbrev pub known_names : Shapes → List (List ℕ)
known_names shapes = codes "name" ∷ map (λ a. a.0) shapes

-- all of them, in byte order of their names, and the place of each
abbrev pub all_fields : List Field
all_fields = f.Actual ∷ f.Cmd ∷ f.Data ∷ f.Name ∷ f.Outs ∷ f.Srcs ∷ f.Tags ∷ f.Tests ∷ f.Tools ∷ f.Visibility ∷ []

abbrev pub place_of : Field → ℕ
place_of f.Actual = 0
place_of f.Cmd = 1
place_of f.Data = 2
place_of f.Name = 3
place_of f.Outs = 4
place_of f.Srcs = 5
place_of f.Tags = 6
place_of f.Tests = 7
place_of f.Tools = 8
place_of f.Visibility = 9

-- the first of some that has a name
abbrev pub named_among : List ℕ → List Field → Option Field
named_among name [] = None
named_among name (x ∷ xs) = if same_text name (field_name x) then Some x else named_among name xs

abbrev pub field_named : List ℕ → Option Field
field_named name = named_among name all_fields

-- no other parameter has the name
abbrev pub IsOnlyField : List ℕ → Option Field → Type 0
IsOnlyField name only = (x : Field) → name ≡ field_name x → only ≡ Some x
