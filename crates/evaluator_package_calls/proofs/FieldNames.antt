-- The names of parameters: which can have a name, and that two with one name are one.
use Rattle.std.proofs.Common.{◌≡◌, ℕ, Bool, true, false, cond, List, [], ◌∷◌, Some, None, map, refl, ap, sym, ◌∙◌, ◌==◌}
use lib.Pointwise.{bytes_decides}
use Rattle.values_semantics.specs.Comparing.{same_text}
use Rattle.evaluator_semantics.specs.Names.{has_name}
use Rattle.evaluator_package_calls.specs.Fields.{field_name, place_of, all_fields, named_among, field_named, shapes, known_names, IsOnlyField}
use Rattle.evaluator_package_calls.specs.declared.fields.Field.{Field}
use Rattle.evaluator_package_calls.specs.declared.fields.Field.TheVariants as f

-- what is found by a name

each_named : (x : Field) → field_named (field_name x) ≡ Some x
each_named f.Actual = refl
each_named x = refl

same_name : (name : List ℕ) (x : Field) → same_text name (field_name x) ≡ true → name ≡ field_name x
same_name name x h = (bytes_decides name (field_name x)).0 h

none_among : (name : List ℕ) (xs : List Field) → ((x : Field) → same_text name (field_name x) ≡ false) → named_among name xs ≡ None
none_among name [] h = refl
none_among name (x ∷ xs) h = ap (λ b. cond b (Some x) (named_among name xs)) (h x) ∙ none_among name xs h

one_among : (name : List ℕ) (xs : List Field) (x : Field) → named_among name xs ≡ Some x → name ≡ field_name x
one_among name [] x h = absurd cc
one_among name (y ∷ ys) x h = by (λ g. one_among name ys x g) (same_text name (field_name y)) refl h
  where
    by : (named_among name ys ≡ Some x → name ≡ field_name x) → (b : Bool) → same_text name (field_name y) ≡ b → cond b (Some y) (named_among name ys) ≡ Some x → name ≡ field_name x
    by so true e g = let same : y ≡ x = cc in same_name name y e ∙ ap field_name same
    by so false e g = so g

pub named_is : (name : List ℕ) (x : Field) → field_named name ≡ Some x → name ≡ field_name x
named_is name x h = one_among name all_fields x h

pub is_named_field : (name : List ℕ) (x : Field) → name ≡ field_name x → field_named name ≡ Some x
is_named_field name x e = ap field_named e ∙ each_named x

pub absent : (name : List ℕ) → field_named name ≡ None → (x : Field) → same_text name (field_name x) ≡ false
absent name h x = by (same_text name (field_name x)) refl
  where
    by : (b : Bool) → same_text name (field_name x) ≡ b → b ≡ false
    by true e = let clash : None ≡ Some x = sym h ∙ is_named_field name x (same_name name x e) in absurd cc
    by false e = refl

-- a name that is not the one of the only parameter that could have it
pub other_name : (name : List ℕ) (only x : Field) → IsOnlyField name (Some only) → same_text name (field_name only) ≡ false → same_text name (field_name x) ≡ false
other_name name only x is h = by (same_text name (field_name x)) refl
  where
    by : (b : Bool) → same_text name (field_name x) ≡ b → b ≡ false
    by true e =
        let same : Some only ≡ Some x = is x (same_name name x e) in
        let one : only ≡ x = cc in
        sym (sym h ∙ ap (λ y. same_text name (field_name y)) one ∙ e)
    by false e = refl

pub not_named : (name bytes : List ℕ) (only : Field) → bytes ≡ name → IsOnlyField bytes (Some only) → same_text name (field_name only) ≡ false → field_named name ≡ None
not_named name bytes only e is h = none_among name all_fields (λ x. other_name name only x (λ y g. is y (e ∙ g)) h)

pub none_named : (name bytes : List ℕ) → bytes ≡ name → IsOnlyField bytes None → field_named name ≡ None
none_named name bytes e only = none_among name all_fields (λ x. miss x (same_text name (field_name x)) refl)
  where
    is : IsOnlyField name None
    is y g = only y (e ∙ g)

    miss : (x : Field) (b : Bool) → same_text name (field_name x) ≡ b → b ≡ false
    miss x true e = let clash : None ≡ Some x = is x (same_name name x e) in absurd cc
    miss x false e = refl

-- two names are one where their places are

pub same_place : (x y : Field) → same_text (field_name x) (field_name y) ≡ (place_of x == place_of y)
same_place f.Actual f.Actual = refl
same_place f.Actual y = refl
same_place f.Cmd f.Actual = refl
same_place f.Cmd y = refl
same_place f.Data f.Actual = refl
same_place f.Data y = refl
same_place f.Name f.Actual = refl
same_place f.Name y = refl
same_place f.Outs f.Actual = refl
same_place f.Outs y = refl
same_place f.Srcs f.Actual = refl
same_place f.Srcs y = refl
same_place f.Tags f.Actual = refl
same_place f.Tags y = refl
same_place f.Tests f.Actual = refl
same_place f.Tests y = refl
same_place f.Tools f.Actual = refl
same_place f.Tools y = refl
same_place f.Visibility f.Actual = refl
same_place f.Visibility y = refl

-- among the names that a rule knows

pub not_known : (name : List ℕ) (xs : List Field) → field_named name ≡ None → has_name name (map (λ a. a.0) (shapes xs)) ≡ false
not_known name [] h = refl
not_known name (x ∷ xs) h = ap (λ b. cond b true (has_name name (map (λ a. a.0) (shapes xs)))) (absent name h x) ∙ not_known name xs h

pub unknown : (name : List ℕ) (xs : List Field) → field_named name ≡ None → has_name name (known_names (shapes xs)) ≡ false
unknown name xs h = ap (λ b. cond b true (has_name name (map (λ a. a.0) (shapes xs)))) (absent name h f.Name) ∙ not_known name xs h
