-- The names that a module exports, one after the other from the last.
use Rattle.std.proofs.Common.{◌≡◌, ◌<◌, ◌≤◌, ◌-◌, ℕ, List, [], ◌∷◌, length, drop, get_or, false, cond, not, refl, ap, sym, ◌∙◌, drop-cons, suc, arith}
use Rattle.std.specs.Ordering.{nat_cmp, match_ordering}
use Rattle.std.specs.declared.cmp.Ordering.{Ordering}
use Rattle.std.specs.declared.cmp.Ordering.TheVariants.{Less, Equal, Greater}
use Rattle.std.specs.Cmp.Lexicographic.{slice_cmp}
use Rattle.std.specs.BTreeSet.{insert_key}
use Rattle.evaluator_semantics.specs.Modules.{is_private}
use Rattle.evaluator_semantics.specs.Sorting.{put_by, put, in_order}
use Rattle.values_modules.specs.Values.{Frozen}
use Rattle.loader_replies.specs.Answers.{public_names}

pub inserted : (k : List ℕ) (ks : List (List ℕ)) → insert_key (slice_cmp nat_cmp) ks k ≡ put (λ x. x) k ks
inserted k [] = refl
inserted k (x ∷ ks) = by (slice_cmp nat_cmp k x) (inserted k ks)
  where
    by : (o : Ordering) → insert_key (slice_cmp nat_cmp) ks k ≡ put (λ x. x) k ks → match_ordering o (k ∷ x ∷ ks) (x ∷ ks) (x ∷ insert_key (slice_cmp nat_cmp) ks k) ≡ put_by o k x ks (put (λ x. x) k ks)
    by Less e = refl
    by Equal e = refl
    by Greater e = ap (λ l. x ∷ l) e

-- from the last binding to the one before it
previous : (own : List Frozen) (i : ℕ) (f : Frozen) → 0 < i → i ≤ length own → f ≡ get_or own (i - 1) f → drop (i - 1) own ≡ f ∷ drop i own
previous own i f low within is =
    let n : suc (i - 1) ≡ i = omega arith in
    drop-cons own (i - 1) f (omega arith) ∙ ap (λ (z : Frozen). z ∷ drop (suc (i - 1)) own) (sym is) ∙ ap (λ k. f ∷ drop k own) n

-- a name that is not the file's own is put among the rest
pub put_in : (own : List Frozen) (i : ℕ) (f : Frozen) (name : List ℕ) (before behind : List (List ℕ)) → 0 < i → i ≤ length own → f ≡ get_or own (i - 1) f → name ≡ f.name → is_private f.name ≡ false
    → before ≡ in_order (λ x. x) (public_names (drop i own)) → behind ≡ insert_key (slice_cmp nat_cmp) before name → behind ≡ in_order (λ x. x) (public_names (drop (i - 1) own))
put_in own i f name before behind low within is same shown h e =
    let more : public_names (drop (i - 1) own) ≡ f.name ∷ public_names (drop i own) = ap public_names (previous own i f low within is) ∙ ap (λ b. cond (not b) (f.name ∷ public_names (drop i own)) (public_names (drop i own))) shown in
    e ∙ inserted name before ∙ ap (λ ks. put (λ x. x) name ks) h ∙ ap (λ n. put (λ x. x) n (in_order (λ x. x) (public_names (drop i own)))) same ∙ ap (in_order (λ x. x)) (sym more)
