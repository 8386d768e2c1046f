-- The arguments of a rule, one more at its place.
use Rattle.std.proofs.Common.{◌≡◌, ◌+◌, ◌-◌, ◌<◌, ◌≤◌, ℕ, zero, suc, Bool, true, false, cond, List, [], ◌∷◌, length, drop, get_or, set, Some, None, Option, is_some, refl, ap, sym, subst, ◌∙◌, inl, inr, arith}
use Rattle.std.specs.Prelude.{◌⊎◌, not, ◌&&◌, slice_get, min, zip}
use Rattle.std.proofs.lemmas.List.{drop_all}
use Rattle.std.proofs.lemmas.Option.{get_or_from_slice_get}
use Rattle.std.proofs.lemmas.Bool.{eqb-true, eqb-false}
use Rattle.values_semantics.specs.declared.val.Val.{Val}
use Rattle.values_semantics.specs.declared.val.Val.TheVariants as v
use Rattle.values_semantics.specs.Comparing.{same_text}
use Rattle.values_semantics.specs.Functions.{KeywordArguments, is_named, is_twice}
use Rattle.evaluator_semantics.specs.Names.{has_name}
use Rattle.evaluator_semantics.specs.Arguments.{value_named}
use Rattle.evaluator_semantics.specs.Rules.{Shapes, are_attributes, not_none}
use Rattle.evaluator_package_calls.specs.Fields.{field_name, field_named, place_of, shapes, known_names}
use Rattle.evaluator_package_calls.specs.RuleArguments.{HasValues, is_taken}
use Rattle.evaluator_package_calls.specs.declared.fields.Field.{Field}
use Rattle.evaluator_package_calls.proofs.FieldNames.{unknown, same_place}
use Rattle.values_builtins.proofs.Rows.{drop_item}

-- ---- a list with another item at a place

set_here : {A : Type 0} → (xs : List A) (i : ℕ) (x y : A) → slice_get xs i ≡ Some x → slice_get (set xs i y) i ≡ Some y
set_here [] i x y h = absurd cc
set_here (z ∷ xs) zero x y h = refl
set_here (z ∷ xs) (suc i) x y h = set_here xs i x y h

set_there : {A : Type 0} → (xs : List A) (i j : ℕ) (y : A) → (j ≡ i → ⊥) → slice_get (set xs i y) j ≡ slice_get xs j
set_there [] i j y n = refl
set_there (z ∷ xs) zero zero y n = absurd (n refl)
set_there (z ∷ xs) zero (suc j) y n = refl
set_there (z ∷ xs) (suc i) zero y n = refl
set_there (z ∷ xs) (suc i) (suc j) y n = set_there xs i j y (λ e. n (ap suc e))

-- ---- values by name

named_test : (b : Bool) (x : Val) (o : Option Val) → cond b true (is_some o) ≡ is_some (cond b (Some x) o)
named_test true x o = refl
named_test false x o = refl

pub named_some : (name : List ℕ) (ns : KeywordArguments) → is_named name ns ≡ is_some (value_named name ns)
named_some name [] = refl
named_some name (n ∷ ns) = ap (λ b. cond (same_text name n.0) true b) (named_some name ns) ∙ named_test (same_text name n.0) n.1 (value_named name ns)

-- a value at the place of its parameter
pub placed : (ns : KeywordArguments) (slots : List (Option Val)) (name : List ℕ) (field : Field) (x : Val) → name ≡ field_name field → HasValues ns slots → HasValues ((name, x) ∷ ns) (set slots (place_of field) (Some x))
placed ns slots name field x e has y = by (same_text (field_name y) (field_name field)) refl
  where
    rest : Option Val
    rest = value_named (field_name y) ns

    goes : (b : Bool) → same_text (field_name y) (field_name field) ≡ b → Some (cond b (Some x) rest) ≡ Some (value_named (field_name y) ((name, x) ∷ ns))
    goes b is = ap (λ c. Some (cond c (Some x) rest)) (sym is ∙ ap (same_text (field_name y)) (sym e))

    by : (b : Bool) → same_text (field_name y) (field_name field) ≡ b → slice_get (set slots (place_of field) (Some x)) (place_of y) ≡ Some (value_named (field_name y) ((name, x) ∷ ns))
    by true is =
        let same : place_of y ≡ place_of field = eqb-true (place_of y) (place_of field) (sym (same_place y field) ∙ is) in
        ap (λ k. slice_get (set slots (place_of field) (Some x)) k) same ∙ set_here slots (place_of field) (value_named (field_name field) ns) (Some x) (has field) ∙ goes true is
    by false is =
        let other = eqb-false (place_of y) (place_of field) (sym (same_place y field) ∙ is) in
        set_there slots (place_of field) (place_of y) (Some x) other ∙ has y ∙ goes false is

-- ---- one argument more, from the last to the first

zip_item : {A B : Type 0} → (xs : List A) (ys : List B) (i : ℕ) (x d : A) (e : B) → i < length xs → i < length ys → x ≡ get_or xs i d → (x, get_or ys i e) ≡ get_or (zip xs ys) i (x, get_or ys i e)
zip_item [] ys i x d e a b g = absurd (omega arith)
zip_item (z ∷ xs) [] i x d e a b g = absurd (omega arith)
zip_item {A} {B} (z ∷ xs) (w ∷ ys) zero x d e a b g = ap (λ (y : A). (y, w)) g
zip_item (z ∷ xs) (w ∷ ys) (suc i) x d e a b g = zip_item xs ys i x d e (omega arith) (omega arith) g

pub zip_count : {A B : Type 0} → (xs : List A) (ys : List B) → length (zip xs ys) ≡ min (length xs) (length ys)
zip_count [] ys = omega arith
zip_count (x ∷ xs) [] = omega arith
zip_count (x ∷ xs) (y ∷ ys) = ap suc (zip_count xs ys) ∙ omega arith

-- what is refused before others is refused with them

attributes_stay : (ns : KeywordArguments) (i : ℕ) (shapes : Shapes) → are_attributes (not_none (drop i ns)) shapes ≡ false → are_attributes (not_none ns) shapes ≡ false
attributes_stay [] zero shapes h = h
attributes_stay [] (suc i) shapes h = h
attributes_stay (n ∷ ns) zero shapes h = h
attributes_stay ((n, v.Nothing) ∷ ns) (suc i) shapes h = attributes_stay ns i shapes h
attributes_stay ((n, x) ∷ ns) (suc i) shapes h = by (has_name n (known_names shapes)) (attributes_stay ns i shapes h)
  where
    by : (b : Bool) → are_attributes (not_none ns) shapes ≡ false → cond b (are_attributes (not_none ns) shapes) false ≡ false
    by true e = e
    by false e = refl

twice_stays : (ns : KeywordArguments) (i : ℕ) → is_twice (drop i ns) ≡ true → is_twice ns ≡ true
twice_stays [] zero h = h
twice_stays [] (suc i) h = h
twice_stays (n ∷ ns) zero h = h
twice_stays (n ∷ ns) (suc i) h = by (is_named n.0 ns) (twice_stays ns i h)
  where
    by : (b : Bool) → is_twice ns ≡ true → cond b true (is_twice ns) ≡ true
    by true e = refl
    by false e = e

attributes_more : (name : List ℕ) (x : Val) (ns : KeywordArguments) (shapes : Shapes) → are_attributes (not_none ((name, x) ∷ ns)) shapes ≡ cond (is_taken name x shapes) (are_attributes (not_none ns) shapes) false
attributes_more name v.Nothing ns shapes = refl
attributes_more name x ns shapes = refl

-- whether all arguments are taken
abbrev pub are_taken : KeywordArguments → Shapes → Bool
are_taken ns shapes = not (is_twice ns) && are_attributes (not_none ns) shapes

refused_by : (a b : Bool) → (a ≡ true) ⊎ (b ≡ false) → false ≡ (not a && b)
refused_by a b (inl e) = ap (λ c. not c && b) (sym e)
refused_by true b (inr e) = refl
refused_by false b (inr e) = sym e

module _ (names : List (List ℕ)) (values : List Val) (i : ℕ) (name d : List ℕ) (shapes : Shapes) (low : 0 < i) (within : i ≤ min (length names) (length values)) (named : name ≡ get_or names (i - 1) d) where
  abbrev x : Val
  x = get_or values (i - 1) v.Nothing

  abbrev ns : KeywordArguments
  ns = zip names values

  before : drop (i - 1) ns ≡ (name, x) ∷ drop i ns
  before =
      let e : (i - 1) + 1 ≡ i = omega arith in
      rw e at (drop_item ns (i - 1) (name, x) (omega (arith, zip_count names values)) (zip_item names values (i - 1) name d v.Nothing (omega arith) (omega arith) named))

  pub refused : (is_named name (drop i ns) ≡ true) ⊎ (is_taken name x shapes ≡ false) → false ≡ are_taken ns shapes
  refused (inl e) = refused_by (is_twice ns) _ (inl (twice_stays ns (i - 1) (ap is_twice before ∙ ap (λ b. cond b true (is_twice (drop i ns))) e)))
  refused (inr e) = refused_by (is_twice ns) _ (inr (attributes_stay ns (i - 1) shapes (ap (λ l. are_attributes (not_none l) shapes) before ∙ attributes_more name x (drop i ns) shapes ∙ ap (λ b. cond b (are_attributes (not_none (drop i ns)) shapes) false) e)))

  pub taken_more : is_taken name x shapes ≡ true → are_attributes (not_none (drop i ns)) shapes ≡ true → are_attributes (not_none (drop (i - 1) ns)) shapes ≡ true
  taken_more e h = ap (λ l. are_attributes (not_none l) shapes) before ∙ attributes_more name x (drop i ns) shapes ∙ ap (λ b. cond b (are_attributes (not_none (drop i ns)) shapes) false) e ∙ h

  pub once_more : is_named name (drop i ns) ≡ false → is_twice (drop i ns) ≡ false → is_twice (drop (i - 1) ns) ≡ false
  once_more e h = ap is_twice before ∙ ap (λ b. cond b true (is_twice (drop i ns))) e ∙ h

  pub has_more : (slots : List (Option Val)) → HasValues ((name, x) ∷ drop i ns) slots → HasValues (drop (i - 1) ns) slots
  has_more slots h = subst (λ (l : KeywordArguments). HasValues l slots) (sym before) h

pub none_behind : (names : List (List ℕ)) (values : List Val) (i : ℕ) → i ≡ min (length names) (length values) → drop i (zip names values) ≡ []
none_behind names values i e = drop_all i (zip names values) (omega (arith, zip_count names values))

pub not_taken : (name : List ℕ) (x : Val) (xs : List Field) → (x ≡ v.Nothing → ⊥) → field_named name ≡ None → is_taken name x (shapes xs) ≡ false
not_taken name v.Nothing xs n h = absurd (n refl)
not_taken name x xs n h = unknown name xs h

pub is_there : (ns : KeywordArguments) (slots : List (Option Val)) (field : Field) (place : ℕ) (b : Bool) → place ≡ place_of field → HasValues ns slots → b ≡ is_some (get_or slots place None) → is_named (field_name field) ns ≡ b
is_there ns slots field place b e has h =
    named_some (field_name field) ns
    ∙ ap is_some (sym (get_or_from_slice_get slots (place_of field) (value_named (field_name field) ns) None (has field)))
    ∙ ap (λ k. is_some (get_or slots k None)) (sym e)
    ∙ sym h
