-- A text that is put into a set of texts.
use Rattle.std.proofs.Common.{◌≡◌, ◌-◌, ◌+◌, ◌<◌, ◌≤◌, ℕ, List, [], ◌∷◌, length, drop, get_or, refl, ap, sym, ◌∙◌, arith}
use Rattle.std.specs.Ordering.{nat_cmp, match_ordering}
use Rattle.std.specs.declared.cmp.Ordering.{Ordering}
use Rattle.std.specs.declared.cmp.Ordering.TheVariants.{Less, Equal, Greater}
use Rattle.std.specs.Cmp.Lexicographic.{slice_cmp}
use Rattle.std.specs.BTreeSet.{insert_key}
use Rattle.evaluator_semantics.specs.Sorting.{put_by, put, in_order}
use Rattle.values_builtins.proofs.Rows.{drop_item}

abbrev itself : List ℕ → List ℕ
itself text = text

pub inserted : (k : List ℕ) (ks : List (List ℕ)) → insert_key (slice_cmp nat_cmp) ks k ≡ put itself k ks
inserted k [] = refl
inserted k (x ∷ ks) = by (slice_cmp nat_cmp k x) (inserted k ks)
  where
    by : (o : Ordering) → insert_key (slice_cmp nat_cmp) ks k ≡ put itself k ks → match_ordering o (k ∷ x ∷ ks) (x ∷ ks) (x ∷ insert_key (slice_cmp nat_cmp) ks k) ≡ put_by o k x ks (put itself k ks)
    by Less e = refl
    by Equal e = refl
    by Greater e = ap (λ l. x ∷ l) e

-- one text more, from the last to the first
pub one_more : (texts : List (List ℕ)) (i : ℕ) (x y : List ℕ) (before behind : List (List ℕ)) → 0 < i → i ≤ length texts → x ≡ get_or texts (i - 1) x → y ≡ x
    → before ≡ in_order itself (drop i texts) → behind ≡ insert_key (slice_cmp nat_cmp) before y → behind ≡ in_order itself (drop (i - 1) texts)
one_more texts i x y before behind low within is same e h =
    let n : (i - 1) + 1 ≡ i = omega arith in
    let first : drop (i - 1) texts ≡ x ∷ drop i texts = drop_item texts (i - 1) x (omega arith) is ∙ ap (λ k. x ∷ drop k texts) n in
    h ∙ inserted y before ∙ ap (λ z. put itself z before) same ∙ ap (put itself x) e ∙ ap (in_order itself) (sym first)
