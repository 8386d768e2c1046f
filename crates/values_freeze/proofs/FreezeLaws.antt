-- Freezing, by how many containers more may be entered, and member by member.
use Rattle.std.proofs.Common.{◌≡◌, ℕ, zero, suc, ◌+◌, ◌-◌, List, [], ◌∷◌, ◌++◌, length, drop, Some, None, Err, refl, sym, ap, ◌∙◌, arith, add-one}
use Rattle.std.specs.Prelude.{slice_get}
use Rattle.std.specs.Option.{unwrap_or}
use Rattle.values_semantics.specs.declared.key.Part.{Part}
use Rattle.values_semantics.specs.declared.val.Val.{Val}
use Rattle.values_semantics.specs.declared.val.Entry.{Entry}
use Rattle.values_semantics.specs.Outcome.{Out, gives, faults, Does, and_then, ◌>>=◌, ◌>>◌, pure, tick}
use Rattle.values_semantics.specs.Heap.{Obj, Entries}
use Rattle.values_semantics.specs.Freezing.{Fz, Fzs, Pairs, list, tuple, dict, member, pair, freeze, inner_freeze, visit_held, held, listed, tupled, mapped, freeze_members, freeze_entry, freeze_entries}
use Rattle.values_objects.specs.declared.halt.Halt.{Halt}
use Rattle.values_objects.specs.declared.halt.Halt.TheVariants.{Code, Memory}
use Rattle.values_freeze.specs.View.{onto, pairs_onto, SaysFrozen, SaysMembers, SaysEntry, SaysEntries}

pub freeze_is : (n : ℕ) (heap : List Obj) (x : Val) (s : ℕ) → freeze n heap x s ≡ visit_held (inner_freeze n heap) (held heap x) s
unfolding freeze inner_freeze
freeze_is zero heap x s = refl
freeze_is (suc n) heap x s = refl

module _ (heap : List Obj) (s : ℕ) where
  module _ (xs : List Val) where
    pub list_deep : (n : ℕ) → n ≡ 0 → visit_held (inner_freeze n heap) (listed xs) s ≡ faults 12
    unfolding inner_freeze
    list_deep zero h = refl
    list_deep (suc n) h = absurd (omega arith)

    pub list_more : (n : ℕ) → ¬ (n ≡ 0) → visit_held (inner_freeze n heap) (listed xs) s ≡ (tick >> (freeze_members (freeze (n - 1) heap) xs >>= λ fs. pure (list fs))) s
    unfolding inner_freeze
    list_more zero h = absurd (h refl)
    list_more (suc n) h = let e : suc n - 1 ≡ n = omega arith in rw e refl

    pub tuple_deep : (n : ℕ) → n ≡ 0 → visit_held (inner_freeze n heap) (tupled xs) s ≡ faults 12
    unfolding inner_freeze
    tuple_deep zero h = refl
    tuple_deep (suc n) h = absurd (omega arith)

    pub tuple_more : (n : ℕ) → ¬ (n ≡ 0) → visit_held (inner_freeze n heap) (tupled xs) s ≡ (tick >> (freeze_members (freeze (n - 1) heap) xs >>= λ fs. pure (tuple fs))) s
    unfolding inner_freeze
    tuple_more zero h = absurd (h refl)
    tuple_more (suc n) h = let e : suc n - 1 ≡ n = omega arith in rw e refl

  module _ (es : Entries) where
    pub dict_deep : (n : ℕ) → n ≡ 0 → visit_held (inner_freeze n heap) (mapped es) s ≡ faults 12
    unfolding inner_freeze
    dict_deep zero h = refl
    dict_deep (suc n) h = absurd (omega arith)

    pub dict_more : (n : ℕ) → ¬ (n ≡ 0) → visit_held (inner_freeze n heap) (mapped es) s ≡ (tick >> (freeze_entries (freeze (n - 1) heap) es >>= λ ps. pure (dict ps))) s
    unfolding inner_freeze
    dict_more zero h = absurd (h refl)
    dict_more (suc n) h = let e : suc n - 1 ≡ n = omega arith in rw e refl

there : {A : Type 0} → (xs : List A) (i : ℕ) (x : A) → slice_get xs i ≡ Some x → drop i xs ≡ x ∷ drop (suc i) xs
there [] i x h = cc
there (y ∷ ys) zero x h = ap (λ o. unwrap_or o y ∷ ys) h
there (y ∷ ys) (suc i) x h = there ys i x h

onto_last : (gs : List Fz) (f : Fz) (fs : Fzs) → onto (gs ++ f ∷ []) fs ≡ onto gs (member f fs)
onto_last [] f fs = refl
onto_last (g ∷ gs) f fs = ap (member g) (onto_last gs f fs)

pairs_onto_last : (qs : List (Fz × Fz)) (q : Fz × Fz) (ps : Pairs) → pairs_onto (qs ++ q ∷ []) ps ≡ pairs_onto qs (pair q.0 q.1 ps)
pairs_onto_last [] q ps = refl
pairs_onto_last (r ∷ qs) q ps = ap (pair r.0 r.1) (pairs_onto_last qs q ps)

-- an iteration of the loop over members, where `all` is what the whole loop gives
module _ (fz : Val → Does ℕ Fz) (xs : List Val) (i : ℕ) (s : ℕ) (done : List Fz) (all : Out ℕ Fzs) (inv : and_then (freeze_members fz (drop i xs) s) (λ fs. gives (onto done fs)) ≡ all) where
  module _ (x : Val) (h : Some x ≡ slice_get xs i) where
    member_now : and_then (and_then (fz x s) (λ f. λ t. and_then (freeze_members fz (drop (suc i) xs) t) (λ fs. pure (member f fs)))) (λ fs. gives (onto done fs)) ≡ all
    member_now = ap (λ l. and_then (freeze_members fz l s) (λ fs. gives (onto done fs))) (sym (there xs i x (sym h))) ∙ inv

    member_rest : (f : Fz) (out : Out ℕ Fzs) → and_then out (λ fs. gives (onto (done ++ f ∷ []) fs)) ≡ and_then (and_then out (λ fs. pure (member f fs))) (λ fs. gives (onto done fs))
    member_rest f (faults c) = refl
    member_rest f (gives fs t) = ap (λ l. gives l t) (onto_last done f fs)

    pub member_frozen : (f : Fz) (t : ℕ) → fz x s ≡ gives f t → and_then (freeze_members fz (drop (i + 1) xs) t) (λ fs. gives (onto (done ++ f ∷ []) fs)) ≡ all
    member_frozen f t e = rw add-one (member_rest f (freeze_members fz (drop (suc i) xs) t) ∙ (ap (λ out. and_then (and_then out (λ f. λ t. and_then (freeze_members fz (drop (suc i) xs) t) (λ fs. pure (member f fs)))) (λ fs. gives (onto done fs))) (sym e) ∙ member_now))

    pub member_halts : (halt : Halt) (t : ℕ) → SaysFrozen (fz x s) (Err halt) t → SaysMembers all (Err halt) t
    member_halts (Code c) t e = sym member_now ∙ ap (λ out. and_then (and_then out (λ f. λ t. and_then (freeze_members fz (drop (suc i) xs) t) (λ fs. pure (member f fs)))) (λ fs. gives (onto done fs))) e
    member_halts (Memory _) t e = tt

-- an iteration of the loop over entries
module _ (fz : Val → Does ℕ Fz) (xs : Entries) (i : ℕ) (s : ℕ) (done : List (Fz × Fz)) (all : Out ℕ Pairs) (inv : and_then (freeze_entries fz (drop i xs) s) (λ ps. gives (pairs_onto done ps)) ≡ all) where
  module _ (k : List Part) (x : Entry) (h : Some (k, x) ≡ slice_get xs i) where
    entry_now : and_then (and_then (freeze_entry fz x s) (λ p. λ t. and_then (freeze_entries fz (drop (suc i) xs) t) (λ ps. pure (pair p.0 p.1 ps)))) (λ ps. gives (pairs_onto done ps)) ≡ all
    entry_now = ap (λ l. and_then (freeze_entries fz l s) (λ ps. gives (pairs_onto done ps))) (sym (there xs i (k, x) (sym h))) ∙ inv

    entry_rest : (p : Fz × Fz) (out : Out ℕ Pairs) → and_then out (λ ps. gives (pairs_onto (done ++ p ∷ []) ps)) ≡ and_then (and_then out (λ ps. pure (pair p.0 p.1 ps))) (λ ps. gives (pairs_onto done ps))
    entry_rest p (faults c) = refl
    entry_rest p (gives ps t) = ap (λ l. gives l t) (pairs_onto_last done p ps)

    pub entry_frozen : (p : Fz × Fz) (t : ℕ) → freeze_entry fz x s ≡ gives p t → and_then (freeze_entries fz (drop (i + 1) xs) t) (λ ps. gives (pairs_onto (done ++ p ∷ []) ps)) ≡ all
    entry_frozen p t e = rw add-one (entry_rest p (freeze_entries fz (drop (suc i) xs) t) ∙ (ap (λ out. and_then (and_then out (λ p. λ t. and_then (freeze_entries fz (drop (suc i) xs) t) (λ ps. pure (pair p.0 p.1 ps)))) (λ ps. gives (pairs_onto done ps))) (sym e) ∙ entry_now))

    pub entry_halts : (halt : Halt) (t : ℕ) → SaysEntry (freeze_entry fz x s) (Err halt) t → SaysEntries all (Err halt) t
    entry_halts (Code c) t e = sym entry_now ∙ ap (λ out. and_then (and_then out (λ p. λ t. and_then (freeze_entries fz (drop (suc i) xs) t) (λ ps. pure (pair p.0 p.1 ps)))) (λ ps. gives (pairs_onto done ps))) e
    entry_halts (Memory _) t e = tt
