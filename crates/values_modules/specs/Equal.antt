-- When two of these are equal: with equal parts in the same order. A dictionary's order counts, and so do the lines of
-- a function.
use Rattle.std.specs.Prelude.{ℕ, List, [], ◌∷◌, Bool, false, ◌&&◌, nat_eq}
use Rattle.std.specs.Cmp.Lexicographic.{pointwise}
use Rattle.values_semantics.specs.Freezing.{Fz, Fzs, no_members, member}
use Rattle.values_freeze.specs.Same.{same}
use Rattle.values_modules.specs.Same.{same_fn}
use Rattle.values_modules.specs.Values.{Attribute, single, several, Target, Frozen, Defaults, Body, ModuleValue}

abbrev pub text_eq : List ℕ → List ℕ → Bool
text_eq = pointwise nat_eq

abbrev pub attribute_eq : Attribute → Attribute → Bool
attribute_eq (single s) (single t) = text_eq s t
attribute_eq (single s) (several ts) = false
attribute_eq (several ss) (single t) = false
attribute_eq (several ss) (several ts) = pointwise text_eq ss ts

abbrev pub named_eq : List ℕ × Attribute → List ℕ × Attribute → Bool
named_eq a b = text_eq a.0 b.0 && attribute_eq a.1 b.1

abbrev pub target_eq : Target → Target → Bool
target_eq a b = text_eq a.kind b.kind && text_eq a.name b.name && pointwise named_eq a.attributes b.attributes

abbrev pub frozen_eq : Frozen → Frozen → Bool
frozen_eq a b = text_eq a.name b.name && same a.value b.value

abbrev pub values_of : Fzs → List Fz
values_of no_members = []
values_of (member f fs) = f ∷ values_of fs

abbrev pub defaults_eq : Defaults → Defaults → Bool
defaults_eq a b = text_eq a.name b.name && pointwise same (values_of a.values) (values_of b.values)

abbrev pub body_eq : Body → Body → Bool
body_eq a b = text_eq a.label b.label && text_eq a.path b.path && pointwise frozen_eq a.own b.own && pointwise frozen_eq a.loaded b.loaded && pointwise same_fn a.functions b.functions && pointwise defaults_eq a.defaults b.defaults

abbrev pub loaded_eq : ModuleValue → ModuleValue → Bool
loaded_eq a b = body_eq a.body b.body && pointwise body_eq a.reached b.reached
