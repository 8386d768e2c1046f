-- Targets as texts, and these in one block of bytes.
use Rattle.std.specs.Prelude.{◌≡◌, ℕ, Bool, List, [], ◌∷◌}
use Rattle.std.specs.List.{list_all}
use Rattle.std.specs.Str.{is_utf8}
use Rattle.values_modules.specs.Values.{Attribute, single, several, Target}
use Rattle.values_modules.specs.Blocks.{block_bytes, texts_in}

-- nothing for a text, one byte for a list of texts
abbrev pub form_of : Attribute → List ℕ
form_of (single text) = []
form_of (several texts) = 1 ∷ []

abbrev pub value_of : Attribute → List ℕ
value_of (single text) = text
value_of (several texts) = block_bytes texts

-- the name, the form and the value of each attribute
abbrev pub attribute_texts : List (List ℕ × Attribute) → List (List ℕ)
attribute_texts [] = []
attribute_texts (a ∷ more) = a.0 ∷ form_of a.1 ∷ value_of a.1 ∷ attribute_texts more

-- the rule, the name and the block of attributes of each target
abbrev pub target_texts : List Target → List (List ℕ)
target_texts [] = []
target_texts (t ∷ more) = t.kind ∷ t.name ∷ block_bytes (attribute_texts t.attributes) ∷ target_texts more

-- bytes that an attribute of this form can have
abbrev pub IsOfForm : List ℕ → List ℕ → Type 0
IsOfForm [] value = Unit {0}
IsOfForm (b ∷ form) value = value ≡ block_bytes (texts_in value)

abbrev pub attribute_in : List ℕ → List ℕ → Attribute
attribute_in [] value = single value
attribute_in (b ∷ form) value = several (texts_in value)

abbrev pub attributes_in : List (List ℕ) → List (List ℕ × Attribute)
attributes_in [] = []
attributes_in (name ∷ []) = []
attributes_in (name ∷ form ∷ []) = []
attributes_in (name ∷ form ∷ value ∷ more) = (name, attribute_in form value) ∷ attributes_in more

abbrev pub targets_in : List (List ℕ) → List Target
targets_in [] = []
targets_in (kind ∷ []) = []
targets_in (kind ∷ name ∷ []) = []
targets_in (kind ∷ name ∷ attributes ∷ more) = record { kind = kind; name = name; attributes = attributes_in (texts_in attributes) } ∷ targets_in more

-- the rules of all targets are text
abbrev pub have_text_kinds : List Target → Bool
have_text_kinds targets = list_all (λ t. is_utf8 t.kind) targets

-- the block of a package's targets
abbrev pub bytes_of : List Target → List ℕ
bytes_of targets = block_bytes (target_texts targets)

-- targets with one block are one list
abbrev pub BlocksTellTargets : Type 0
BlocksTellTargets = (a b : List Target) → bytes_of a ≡ bytes_of b → a ≡ b
