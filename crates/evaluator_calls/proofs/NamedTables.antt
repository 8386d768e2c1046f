-- A table of named arguments, and a set of parameters, with one more of them, from the last to the first.
use Rattle.std.proofs.Common.{◌≡◌, ◌-◌, ◌<◌, ◌≤◌, ℕ, zero, suc, Bool, true, false, cond, List, [], ◌∷◌, length, drop, drop-cons, get_or, map, Some, Option, is_some, refl, ap, sym, ◌∙◌, arith}
use Rattle.std.specs.Prelude.{zip, min, option_map}
use Rattle.std.proofs.lemmas.List.{drop_all}
use Rattle.std.proofs.lemmas.Option.{slice_get_read}
use lib.Pointwise.{bytes_decides}
use Rattle.values_semantics.specs.declared.val.Val.{Val}
use Rattle.values_semantics.specs.Comparing.{same_text}
use Rattle.values_semantics.specs.Functions.{KeywordArguments, is_named, is_twice}
use Rattle.values_modules.specs.Values.{Frozen}
use Rattle.evaluator_semantics.specs.Arguments.{value_named, is_parameter}
use Rattle.evaluator_semantics.specs.Modules.{frozen_at}
use Rattle.syntax_tree.specs.Statements.{param_of}
use Rattle.syntax_tree.specs.declared.def.Param.{Param}
use Rattle.evaluator_calls.specs.ExportTables.{value_at}
use Rattle.evaluator_calls.proofs.Accepts.{named_some}

turned : (a b : List ℕ) → same_text a b ≡ same_text b a
turned a b = by (same_text a b) (same_text b a) refl refl
  where
    by : (p q : Bool) → same_text a b ≡ p → same_text b a ≡ q → p ≡ q
    by true true h g = refl
    by false false h g = refl
    by true false h g = sym ((bytes_decides b a).1 (sym ((bytes_decides a b).0 h))) ∙ g
    by false true h g = sym h ∙ (bytes_decides a b).1 (sym ((bytes_decides b a).0 g))

item_before : {A : Type 0} → (xs : List A) (i : ℕ) (x : A) → 0 < i → i ≤ length xs → x ≡ get_or xs (i - 1) x → drop (i - 1) xs ≡ x ∷ drop i xs
item_before {A} xs i x low within is =
    let n : suc (i - 1) ≡ i = omega arith in
    drop-cons xs (i - 1) x (omega arith) ∙ ap (λ (y : A). y ∷ drop (suc (i - 1)) xs) (sym is) ∙ ap (λ k. x ∷ drop k xs) n

-- an item does not depend on what is given in its absence
pub item_again : {A : Type 0} → (xs : List A) (i : ℕ) (other : A) → get_or xs i other ≡ get_or xs i (get_or xs i other)
item_again [] i other = refl
item_again (x ∷ xs) zero other = refl
item_again (x ∷ xs) (suc i) other = item_again xs i other

zip_item : {A B : Type 0} → (xs : List A) (ys : List B) (i : ℕ) (x : A) (y : B) → i < length xs → i < length ys → x ≡ get_or xs i x → y ≡ get_or ys i y → (x, y) ≡ get_or (zip xs ys) i (x, y)
zip_item [] ys i x y a b e f = absurd (omega arith)
zip_item (z ∷ xs) [] i x y a b e f = absurd (omega arith)
zip_item (z ∷ xs) (w ∷ ys) zero x y a b e f = λ i. (e i, f i)
zip_item (z ∷ xs) (w ∷ ys) (suc i) x y a b e f = zip_item xs ys i x y (omega arith) (omega arith) e f

zip_count : {A B : Type 0} → (xs : List A) (ys : List B) → length (zip xs ys) ≡ min (length xs) (length ys)
zip_count [] ys = omega arith
zip_count (x ∷ xs) [] = omega arith
zip_count (x ∷ xs) (y ∷ ys) = ap suc (zip_count xs ys) ∙ omega arith

pub none_behind : (names : List (List ℕ)) (values : List Val) → drop (min (length names) (length values)) (zip names values) ≡ []
none_behind names values = drop_all (min (length names) (length values)) (zip names values) (omega (arith, zip_count names values))

twice_stays : (ns : KeywordArguments) (i : ℕ) → is_twice (drop i ns) ≡ true → is_twice ns ≡ true
twice_stays [] zero h = h
twice_stays [] (suc i) h = h
twice_stays (n ∷ ns) zero h = h
twice_stays (n ∷ ns) (suc i) h = by (is_named n.0 ns) (twice_stays ns i h)
  where
    by : (b : Bool) → is_twice ns ≡ true → cond b true (is_twice ns) ≡ true
    by true e = refl
    by false e = e

module _ (names : List (List ℕ)) (values : List Val) (i : ℕ) (name : List ℕ) (x : Val) (low : 0 < i) (within : i ≤ min (length names) (length values)) (named : name ≡ get_or names (i - 1) name) (is : x ≡ get_or values (i - 1) x) where
  abbrev ns : KeywordArguments
  ns = zip names values

  before : drop (i - 1) ns ≡ (name, x) ∷ drop i ns
  before = item_before ns i (name, x) low (omega (arith, zip_count names values)) (zip_item names values (i - 1) name x (omega arith) (omega arith) named is)

  pub again : is_some (value_named name (drop i ns)) ≡ true → is_twice ns ≡ true
  again e = twice_stays ns (i - 1) (ap is_twice before ∙ ap (λ b. cond b true (is_twice (drop i ns))) (named_some name (drop i ns) ∙ e))

  pub still_once : is_some (value_named name (drop i ns)) ≡ false → is_twice (drop i ns) ≡ false → is_twice (drop (i - 1) ns) ≡ false
  still_once e h = ap is_twice before ∙ ap (λ b. cond b true (is_twice (drop i ns))) (named_some name (drop i ns) ∙ e) ∙ h

  pub finds_more : (after old : List ℕ → Option Val) → ((q : List ℕ) → after q ≡ cond (same_text name q) (Some x) (old q)) → ((q : List ℕ) → old q ≡ value_named q (drop i ns)) → (q : List ℕ) → after q ≡ value_named q (drop (i - 1) ns)
  finds_more after old updates finds q =
      updates q ∙ ap (λ o. cond (same_text name q) (Some x) o) (finds q) ∙ ap (λ b. cond b (Some x) (value_named q (drop i ns))) (turned name q) ∙ ap (value_named q) (sym before)

pub known_more : (params : List Param) (i : ℕ) (p : Param) (after old : List ℕ → Bool) → 0 < i → i ≤ length params → p ≡ get_or params (i - 1) p → ((q : List ℕ) → after q ≡ cond (same_text p.name q) true (old q))
    → ((q : List ℕ) → old q ≡ is_parameter q (map param_of (drop i params))) → (q : List ℕ) → after q ≡ is_parameter q (map param_of (drop (i - 1) params))
known_more params i p after old low within is updates known q =
    updates q ∙ ap (λ b. cond (same_text p.name q) true b) (known q) ∙ ap (λ b. cond b true (is_parameter q (map param_of (drop i params)))) (turned p.name q)
    ∙ ap (λ ps. is_parameter q (map param_of ps)) (sym (item_before params i p low within is))

-- ---- the places of a module's own names

pub places_more : (own : List Frozen) (i : ℕ) (b : Frozen) (name : List ℕ) (after old : List ℕ → Option ℕ) → 0 < i → i ≤ length own → b ≡ get_or own (i - 1) b → name ≡ b.name → ((q : List ℕ) → after q ≡ cond (same_text name q) (Some (i - 1)) (old q))
    → ((q : List ℕ) → value_at own (old q) ≡ frozen_at q (drop i own)) → (q : List ℕ) → value_at own (after q) ≡ frozen_at q (drop (i - 1) own)
places_more own i b name after old low within is named updates found q =
    ap (value_at own) (updates q) ∙ by (same_text name q) refl
  where
    there : value_at own (Some (i - 1)) ≡ Some b.value
    there = ap (option_map (λ f. f.value)) (slice_get_read own (length own) (i - 1) b refl (omega arith) is)

    first : (t : Bool) → same_text name q ≡ t → cond t (Some b.value) (frozen_at q (drop i own)) ≡ frozen_at q (drop (i - 1) own)
    first t e =
        ap (λ t. cond t (Some b.value) (frozen_at q (drop i own))) (sym e ∙ turned name q ∙ ap (same_text q) named)
        ∙ ap (frozen_at q) (sym (item_before own i b low within is))

    by : (t : Bool) → same_text name q ≡ t → value_at own (cond t (Some (i - 1)) (old q)) ≡ frozen_at q (drop (i - 1) own)
    by true e = there ∙ first true e
    by false e = found q ∙ first false e
