-- Frozen values are put on a heap without a step.
use Rattle.std.proofs.Common.{◌≡◌, ℕ, [], Result, Ok, Err, refl, ap, sym, ◌∙◌}
use Rattle.std.specs.Prelude.{IfOk}
use Rattle.values_semantics.specs.declared.val.Val.{Val}
use Rattle.values_semantics.specs.Outcome.{Out, gives, faults, Does, and_then}
use Rattle.values_semantics.specs.Heap.{Store, Entries}
use Rattle.values_semantics.specs.Freezing as f
use Rattle.values_semantics.specs.Freezing.{Fz, Fzs, Pairs, thaw, thaw_members, thaw_pairs}
use Rattle.values_objects.specs.declared.halt.Halt.{Halt}
use Rattle.values_heap.specs.View.{Says}

abbrev StepsAt : {A : Type 0} → ℕ → Out Store A → Type 0
StepsAt n (gives a s) = s.steps ≡ n
StepsAt n (faults c) = Unit {0}

pub record Still {A : Type 0} (n : ℕ) (e : Out Store A) : Type 0 where
  pub at : StepsAt n e

still_then : {A B : Type 0} (n : ℕ) (e : Out Store A) (k : A → Does Store B) → Still n e → ((a : A) (s : Store) → Still s.steps (k a s)) → Still n (and_then e k)
still_then n (faults c) k p h = record { at = tt }
still_then {B = B} n (gives a s) k p h = from (k a s) (h a s)
  where
    from : (o : Out Store B) → Still s.steps o → Still n o
    from (gives b t) q = record { at = q.at ∙ p.at }
    from (faults c) q = record { at = tt }

mutual
  pub thaw_still : (x : Fz) (s : Store) → Still s.steps (thaw x s)
  thaw_still f.nothing s = record { at = refl }
  thaw_still (f.boolean b) s = record { at = refl }
  thaw_still (f.whole n) s = record { at = refl }
  thaw_still (f.built_in b) s = record { at = refl }
  thaw_still (f.text bytes) s = record { at = refl }
  thaw_still (f.list fs) s = still_then s.steps (thaw_members fs s) _ (members_still fs s) (λ xs t. record { at = refl })
  thaw_still (f.tuple fs) s = still_then s.steps (thaw_members fs s) _ (members_still fs s) (λ xs t. record { at = refl })
  thaw_still (f.dict ps) s = still_then s.steps (thaw_pairs [] ps s) _ (pairs_still [] ps s) (λ es t. record { at = refl })
  thaw_still (f.function label name) s = record { at = refl }

  pub members_still : (fs : Fzs) (s : Store) → Still s.steps (thaw_members fs s)
  members_still f.no_members s = record { at = refl }
  members_still (f.member x fs) s = still_then s.steps (thaw x s) _ (thaw_still x s) (λ y t. still_then t.steps (thaw_members fs t) _ (members_still fs t) (λ ys u. record { at = refl }))

  pairs_still : (es : Entries) (ps : Pairs) (s : Store) → Still s.steps (thaw_pairs es ps s)
  pairs_still es f.no_pairs s = record { at = refl }
  pairs_still es (f.pair k x ps) s = still_then s.steps (thaw k s) _ (thaw_still k s) (λ y t. still_then t.steps (thaw x t) _ (thaw_still x t) (λ z u. pairs_still _ ps u))

same_steps : {A : Type 0} (n : ℕ) (o : Out Store A) (a : A) (s : Store) → Still n o → o ≡ gives a s → s.steps ≡ n
same_steps n (gives b t) a s h e = let same : t ≡ s = cc in ap (λ (u : Store). u.steps) (sym same) ∙ h.at
same_steps n (faults c) a s h e = absurd cc

pub steps_stay : (x : Fz) (t s : Store) (r : Result Val Halt) → Says (thaw x t) r s → IfOk r (λ _. s.steps ≡ t.steps)
steps_stay x t s (Ok a) e = same_steps t.steps (thaw x t) a s (thaw_still x t) e
steps_stay x t s (Err h) e = tt
