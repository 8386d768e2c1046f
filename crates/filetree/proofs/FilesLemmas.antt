-- Maps that entries make.
use Rattle.std.proofs.Common.{◌≡◌, ◌∙◌, ap, sym, length, ℕ, List, [], ◌∷◌, map as each, Bool, true, false, cond, ◌||◌, Option, Some, None, refl, arith}
use Rattle.std.specs.Prelude.{option_map, is_some, string_bytes, String, IfNone}
use Rattle.std.specs.Ordering.{nat_cmp, eq_by_cmp, is_eq}
use Rattle.std.specs.declared.cmp.Ordering.TheVariants.{Less, Equal, Greater}
use Rattle.std.specs.declared.alloc.Global.{Global}
use Rattle.std.specs.Cmp.{eq_by_cmp_equiv}
use Rattle.std.specs.Cmp.Lexicographic.{slice_cmp, nat_list_cmp_total}
use Rattle.std.specs.FinMap.Entries.{by_order}
use Rattle.std.specs.FinMap as map
use Rattle.std.specs.List.{list_any}
use Rattle.std.specs.BTreeMap as tree
use Rattle.std.specs.BTreeMap.{BTreeMap}
use Rattle.std.specs.Map.{update, lookup}
use Rattle.std.specs.Str.{bytes_eq}
use Rattle.std.proofs.lemmas.Map.Text.{is_eq-slice_cmp}

or_swap : (a b c : Bool) → a || (b || c) ≡ b || (a || c)
or_swap true true c = refl
or_swap true false c = refl
or_swap false b c = refl

same_text : (x y : List ℕ) → slice_cmp nat_cmp x y ≡ Equal → x ≡ y
same_text = map.slice_cmp-IsAntisymmetric map.nat_cmp-IsAntisymmetric

or_again : (a b : Bool) → a || b ≡ a || (a || b)
or_again true b = refl
or_again false b = refl

any_put : (p : List ℕ → Bool) (k v : List ℕ) (es : List (List ℕ × List ℕ)) → list_any p (each (λ e. e.0) (map.put (slice_cmp nat_cmp) k v es)) ≡ p k || list_any p (each (λ e. e.0) es)
any_put p k v [] = refl
any_put p k v (e ∷ es) =
    elim (slice_cmp nat_cmp k e.0) as (λ o. slice_cmp nat_cmp k e.0 ≡ o → list_any p (each (λ e. e.0) (by_order o ((k, v) ∷ e ∷ es) ((e.0, v) ∷ es) (e ∷ map.put (slice_cmp nat_cmp) k v es))) ≡ p k || (p e.0 || list_any p (each (λ e. e.0) es))) [
      | Less ↦ λ h. refl
      | Equal ↦ λ h. or_again (p e.0) _ ∙ ap (λ x. p x || (p e.0 || list_any p (each (λ e. e.0) es))) (sym (same_text k e.0 h))
      | Greater ↦ λ h. ap (λ b. p e.0 || b) (any_put p k v es) ∙ or_swap (p e.0) (p k) _
    ] refl

nothing : {X : Type 0} (es : List X) → length es ≡ 0 → es ≡ []
nothing [] h = refl
nothing (e ∷ es) h = absurd (omega arith)

pub no_entries : {X : Type 0} → map.entries (map.empty {X = X} {R = slice_cmp nat_cmp}) ≡ []
no_entries {X} = nothing _ (sym (map.len-entries (map.empty {X = X} {R = slice_cmp nat_cmp})) ∙ map.len-empty (slice_cmp nat_cmp) X)

-- a test of some key
pub any_key : (p : List ℕ → Bool) (es : List (List ℕ × List ℕ)) → list_any p (map.keys (map.from_entries {R = slice_cmp nat_cmp} es)) ≡ list_any p (each (λ e. e.0) es)
any_key p [] = ap (λ es. list_any p (each (λ e. e.0) es)) no_entries
any_key p (e ∷ es) =
    ap (λ fs. list_any p (each (λ e. e.0) fs)) (map.entries-insert nat_list_cmp_total (map.from_entries es) e.0 e.1)
    ∙ any_put p e.0 e.1 _ ∙ ap (λ b. p e.0 || b) (any_key p es)
