-- Freezing of several values, one after another.
use Rattle.std.proofs.Common.{◌≡◌, ◌≤◌, ◌++◌, ℕ, List, [], ◌∷◌, Result, Ok, Err, refl, ap, sym, ◌∙◌}
use Rattle.std.specs.Prelude.{IfOk}
use Rattle.values_objects.specs.declared.halt.Halt.{Halt}
use Rattle.values_heap.specs.View.{Says}
use Rattle.values_semantics.specs.declared.val.Val.{Val}
use Rattle.values_semantics.specs.Outcome.{Out, gives, faults, and_then, pure, ◌>>=◌}
use Rattle.values_semantics.specs.Heap.{Store, walk_done}
use Rattle.values_semantics.specs.Freezing.{Fz, Fzs, member, freeze, freezes, freeze_members}
use Rattle.values_freeze.specs.View.{onto}
use Rattle.evaluator_semantics.proofs.HeapSteps.{HeapAtMost, d_walks}
use Rattle.evaluator_semantics.proofs.WalkSteps.{freeze_falls}
use Rattle.evaluator_calls.specs.Freeze.{freeze_values}

less : {A : Type 0} → (a : A) (n : ℕ) (o : Out Store A) (s : Store) → HeapAtMost n o → o ≡ gives a s → s.steps ≤ n
less a n (gives b t) s h e = let f : t ≡ s = cc in rw (← f) h
less a n (faults c) s h e = absurd cc

pub freezing_lowers : (x : Val) (t s : Store) (r : Result Fz Halt) → Says (freezes x t) r s → IfOk r (λ _. s.steps ≤ t.steps)
freezing_lowers x t s (Ok f) e = less f t.steps (freezes x t) s (d_walks (λ heap. freeze 64 heap x) (λ heap. freeze_falls 64 heap x) t).at e
freezing_lowers x t s (Err h) e = tt

module _ (xs : List Val) (s : Store) where
  second : (f : Fz) (n : ℕ) (p : Out ℕ Fzs) → walk_done s (and_then p (λ fs. pure (member f fs))) ≡ and_then (walk_done (record s { steps = n }) p) (λ fs. gives (member f fs))
  second f n (gives fs m) = refl
  second f n (faults c) = refl

  first : (o : Out ℕ Fz) → walk_done s (and_then o (λ f. freeze_members (freeze 64 s.heap) xs >>= λ fs. pure (member f fs))) ≡ and_then (walk_done s o) (λ f t. and_then (freeze_values xs t) (λ fs. gives (member f fs)))
  first (gives f n) = second f n (freeze_members (freeze 64 s.heap) xs n)
  first (faults c) = refl

-- the first value, and then the others
values_first : (x : Val) (xs : List Val) (s : Store) → freeze_values (x ∷ xs) s ≡ and_then (freezes x s) (λ f t. and_then (freeze_values xs t) (λ fs. gives (member f fs)))
values_first x xs s = first xs s (freeze 64 s.heap x s.steps)

onto_last : (gs : List Fz) (f : Fz) (fs : Fzs) → onto (gs ++ f ∷ []) fs ≡ onto gs (member f fs)
onto_last [] f fs = refl
onto_last (g ∷ gs) f fs = ap (member g) (onto_last gs f fs)

joined : (done : List Fz) (f : Fz) (p : Out Store Fzs) → and_then (and_then p (λ fs. gives (member f fs))) (λ fs. gives (onto done fs)) ≡ and_then p (λ fs. gives (onto (done ++ f ∷ []) fs))
joined done f (gives fs u) = ap (λ z. gives z u) (sym (onto_last done f fs))
joined done f (faults c) = refl

pub values_more : (done : List Fz) (x : Val) (xs : List Val) (f : Fz) (s t : Store) → freezes x s ≡ gives f t → and_then (freeze_values (x ∷ xs) s) (λ fs. gives (onto done fs)) ≡ and_then (freeze_values xs t) (λ fs. gives (onto (done ++ f ∷ []) fs))
values_more done x xs f s t e =
    ap (λ o. and_then o (λ fs. gives (onto done fs))) (values_first x xs s ∙ ap (λ o. and_then o (λ f t. and_then (freeze_values xs t) (λ fs. gives (member f fs)))) e)
    ∙ joined done f (freeze_values xs t)
