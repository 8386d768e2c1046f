-- What is true of all replies.
use Rattle.std.specs.Prelude.{◌≡◌, ℕ, List, [], ◌∷◌, false, IsUtf8}
use Rattle.std.specs.List.{AllByRecursion}
use Rattle.evaluator_semantics.specs.Sorting.{Rises}
use Rattle.values_modules.specs.Values.{Attribute, Target, Body}
use Rattle.serde_json.specs.Data.{Data, string, Members, no_members, member}
use Rattle.serde_json.specs.Written.{has_float}
use Rattle.loader_replies.specs.Answers.{string_data, put_attributes, package_data, faulty_package, packages_data, fault_data, cycle_data, exported_names, module_data, faulty_module}

abbrev pub names_of : Members → List (List ℕ)
names_of no_members = []
names_of (member name d ms) = name ∷ names_of ms

-- the attributes of a target are in byte order of their names, one of each name
abbrev pub AttributesRise : Type 0
AttributesRise = (attributes : List (List ℕ × Attribute)) → Rises (names_of (put_attributes attributes no_members))

-- the names that a module exports are in byte order, each once
abbrev pub ExportsRise : Type 0
ExportsRise = (body : Body) → Rises (exported_names body)

-- a string that is text is not changed
abbrev pub TextsStay : Type 0
TextsStay = (s : List ℕ) → IsUtf8 s → string_data s ≡ string s

-- a value without floats, so that its text is determined
abbrev pub IsPlain : Data → Type 0
IsPlain d = has_float d ≡ false

pub record AnswersArePlain : Type 0 where
  pub loaded_package : (name : List ℕ) (targets : List Target) → IsPlain (package_data name targets)
  pub faulty_package : (name : List ℕ) (fault : Data) → IsPlain fault → IsPlain (faulty_package name fault)
  pub packages : (ds : List Data) → AllByRecursion IsPlain ds → IsPlain (packages_data ds)
  pub fault : (code : ℕ) (path : List ℕ) (line : ℕ) → IsPlain (fault_data code path line)
  pub cycle : (labels : List (List ℕ)) → IsPlain (cycle_data labels)
  pub exports : (body : Body) → IsPlain (module_data body)
  pub faulty_module : (fault : Data) → IsPlain fault → IsPlain (faulty_module fault)
