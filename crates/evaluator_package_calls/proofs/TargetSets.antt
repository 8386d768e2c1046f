-- A target that is put into a set of targets by name.
use Rattle.std.proofs.Common.{◌≡◌, ◌-◌, ◌<◌, ◌≤◌, ℕ, List, [], ◌∷◌, length, drop, get_or, map, refl, ap, sym, ◌∙◌, arith, drop-cons, suc}
use Rattle.std.specs.Ordering.{nat_cmp, match_ordering}
use Rattle.std.specs.declared.cmp.Ordering.{Ordering}
use Rattle.std.specs.declared.cmp.Ordering.TheVariants.{Less, Equal, Greater}
use Rattle.std.specs.Cmp.Lexicographic.{slice_cmp}
use Rattle.std.specs.BTreeSet.{insert_key}
use Rattle.values_modules.specs.Values.{Target}
use Rattle.evaluator_semantics.specs.Sorting.{put_by, put, in_order}
use Rattle.evaluator_state.specs.declared.state.Target as made
use Rattle.evaluator_state.specs.View.{target_of}

abbrev name_of : Target → List ℕ
name_of t = t.name

abbrev order : Target → Target → Ordering
order x y = slice_cmp nat_cmp x.name y.name

pub inserted : (k : Target) (ks : List Target) → insert_key order ks k ≡ put name_of k ks
inserted k [] = refl
inserted k (x ∷ ks) = by (order k x) (inserted k ks)
  where
    by : (o : Ordering) → insert_key order ks k ≡ put name_of k ks → match_ordering o (k ∷ x ∷ ks) (x ∷ ks) (x ∷ insert_key order ks k) ≡ put_by o k x ks (put name_of k ks)
    by Less e = refl
    by Equal e = refl
    by Greater e = ap (λ l. x ∷ l) e

-- one target more, from the last to the first
pub one_more : (targets : List made.Target) (i : ℕ) (x : made.Target) (y : Target) (before behind : List Target) → 0 < i → i ≤ length targets → x ≡ get_or targets (i - 1) x → y ≡ target_of x
    → before ≡ in_order name_of (map target_of (drop i targets)) → behind ≡ insert_key order before y → behind ≡ in_order name_of (map target_of (drop (i - 1) targets))
one_more targets i x y before behind low within is same e h =
    let n : suc (i - 1) ≡ i = omega arith in
    let first : drop (i - 1) targets ≡ x ∷ drop i targets = drop-cons targets (i - 1) x (omega arith) ∙ ap (λ (z : made.Target). z ∷ drop (suc (i - 1)) targets) (sym is) ∙ ap (λ k. x ∷ drop k targets) n in
    h ∙ inserted y before ∙ ap (λ z. put name_of z before) same ∙ ap (put name_of (target_of x)) e ∙ ap (λ ts. in_order name_of (map target_of ts)) (sym first)
