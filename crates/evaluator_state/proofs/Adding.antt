-- One name more among those of the targets.
use Rattle.std.proofs.Common.{◌≡◌, ◌++◌, ℕ, Bool, true, false, cond, List, [], ◌∷◌, map, refl, ap, sym, ◌∙◌}
use Rattle.std.proofs.lemmas.List.{map-append}
use Rattle.std.specs.BTreeSet.{BTreeSet, contains, Updates}
use Rattle.std.specs.Cmp.Lexicographic.{slice_cmp, texts_ties}
use Rattle.std.specs.Ordering.{nat_cmp}
use lib.Pointwise.{bytes_decides}
use Rattle.values_semantics.specs.Comparing.{same_text}
use Rattle.evaluator_semantics.specs.Names.{has_name}
use Rattle.evaluator_state.specs.declared.state.Target.{Target}
use Rattle.evaluator_state.specs.TargetNames.{name_of, HasNames}

turned : (x y : List ℕ) (a b : Bool) → same_text x y ≡ a → same_text y x ≡ b → a ≡ b
turned x y true b e f = sym ((bytes_decides y x).1 (sym ((bytes_decides x y).0 e))) ∙ f
turned x y false true e f = sym e ∙ (bytes_decides x y).1 (sym ((bytes_decides y x).0 f))
turned x y false false e f = refl

has_behind : (x y : List ℕ) (ys : List (List ℕ)) → has_name x (ys ++ y ∷ []) ≡ cond (same_text x y) true (has_name x ys)
has_behind x y [] = refl
has_behind x y (z ∷ ys) = ap (λ t. cond (same_text x z) true t) (has_behind x y ys) ∙ swap (same_text x z) (same_text x y) (has_name x ys)
  where
    swap : (a b t : Bool) → cond a true (cond b true t) ≡ cond b true (cond a true t)
    swap true true t = refl
    swap true false t = refl
    swap false b t = refl

-- a target with a name that none had
pub names_more : (targets : List Target) (target : Target) (name : List ℕ) (before after : BTreeSet (List ℕ)) → name ≡ target.name → HasNames targets before → Updates (slice_cmp nat_cmp) before after name true
    → HasNames (targets ++ target ∷ []) after
names_more targets target name before after same has u x =
    u.0 x
    ∙ ap (λ b. cond b true (contains (slice_cmp nat_cmp) before x)) (sym (texts_ties name x) ∙ turned name x (same_text name x) (same_text x name) refl refl)
    ∙ ap (λ b. cond (same_text x name) true b) (has x)
    ∙ ap (λ n. cond (same_text x n) true (has_name x (map name_of targets))) same
    ∙ sym (ap (has_name x) (map-append name_of targets (target ∷ [])) ∙ has_behind x target.name (map name_of targets))
