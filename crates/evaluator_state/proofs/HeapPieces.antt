-- What works on the heap alone, as a piece of an evaluation; and that it leaves no more steps.
use Rattle.std.proofs.Common.{◌≡◌, ◌≤◌, ◌++◌, ℕ, suc, List, [], ◌∷◌, length, Bool, true, false, cond, Some, is_some, Result, Ok, Err, refl, ap}
use Rattle.std.specs.Prelude.{IfOk}
use Rattle.values_objects.specs.declared.halt.Halt.{Halt}
use Rattle.values_heap.specs.View.{Says}
use Rattle.values_semantics.specs.declared.key.Part.{Part}
use Rattle.values_semantics.specs.declared.val.Entry.{Entry}
use Rattle.values_semantics.specs.Keys.{same_key}
use Rattle.values_semantics.specs.Comparing.{entry_at}
use Rattle.values_semantics.specs.Indexing.{with_key}
use Rattle.evaluator_semantics.specs.Targets.{Aim, how_many}
use Rattle.evaluator_state.specs.AimView.{aims_of}
use Rattle.values_semantics.specs.Outcome.{Out, gives, faults, Does}
use Rattle.values_semantics.specs.Heap.{Store, Entries}
use Rattle.evaluator_semantics.proofs.HeapSteps.{Lowers, HeapAtMost}

less : {A : Type 0} → (a : A) (n : ℕ) (o : Out Store A) (s : Store) → HeapAtMost n o → o ≡ gives a s → s.steps ≤ n
less a n (gives b t) s h e = let f : t ≡ s = cc in rw (← f) h
less a n (faults c) s h e = absurd cc

pub fewer : {A : Type 0} → (m : Does Store A) (t s : Store) (r : Result A Halt) → Lowers m → Says (m t) r s → IfOk r (λ _. s.steps ≤ t.steps)
fewer m t s (Ok a) down e = less a t.steps (m t) s (down t).at e
fewer m t s (Err h) down e = tt

-- a key that is not there goes after the others
pub behind : (k : List Part) (e : Entry) (es : Entries) → is_some (entry_at k es) ≡ false → with_key k e es ≡ es ++ (k, e) ∷ []
behind k e [] h = refl
behind k e (x ∷ xs) h = behind_at (same_key k x.0) k e x xs h (behind k e xs)
  where
    behind_at : (b : Bool) (k : List Part) (e : Entry) (x : List Part × Entry) (xs : Entries) → is_some (cond b (Some x.1) (entry_at k xs)) ≡ false → (is_some (entry_at k xs) ≡ false → with_key k e xs ≡ xs ++ (k, e) ∷ []) → cond b ((x.0, e) ∷ xs) (x ∷ with_key k e xs) ≡ x ∷ (xs ++ (k, e) ∷ [])
    behind_at true k e x xs h ih = absurd cc
    behind_at false k e x xs h ih = ap (λ l. x ∷ l) (ih h)

pub how_many_of : (as' : List Aim) → how_many (aims_of as') ≡ length as'
how_many_of [] = refl
how_many_of (a ∷ as') = ap suc (how_many_of as')
