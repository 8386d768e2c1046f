-- Hashing, by how many containers more may be entered.
use Rattle.std.proofs.Common.{◌≡◌, ℕ, zero, suc, ◌+◌, ◌-◌, List, ◌∷◌, ◌++◌, length, drop, Some, Err, refl, sym, ap, ◌∙◌, arith, append_assoc}
use Rattle.std.specs.Prelude.{slice_get}
use Rattle.values_semantics.specs.declared.key.Part.{Part}
use Rattle.values_semantics.specs.declared.val.Val.{Val}
use Rattle.values_semantics.specs.declared.key.Part.TheVariants as p
use Rattle.values_semantics.specs.Outcome.{Out, gives, faults, Does, and_then, ◌>>=◌, ◌>>◌, pure, tick}
use Rattle.values_semantics.specs.Heap.{Obj}
use Rattle.values_semantics.specs.Hashing.{key, inner_key, visit_key, as_key, along, parts}
use Rattle.values_objects.specs.declared.halt.Halt.{Halt}
use Rattle.values_objects.specs.declared.halt.Halt.TheVariants.{Code, Memory}
use Rattle.values_heap.specs.View.{SaysItems}
use Rattle.values_operators.proofs.Comparisons.{drop_there}

pub key_is : (n : ℕ) (heap : List Obj) (x : Val) (s : ℕ) → key n heap x s ≡ visit_key (inner_key n heap) (as_key heap x) s
unfolding key inner_key
key_is zero heap x s = refl
key_is (suc n) heap x s = refl

module _ (heap : List Obj) (members : List Val) (s : ℕ) where
  pub tuple_deep : (n : ℕ) → n ≡ 0 → visit_key (inner_key n heap) (parts members) s ≡ faults 12
  unfolding inner_key
  tuple_deep zero h = refl
  tuple_deep (suc n) h = absurd (omega arith)

  pub tuple_more : (n : ℕ) → ¬ (n ≡ 0) → visit_key (inner_key n heap) (parts members) s ≡ (tick >> (along (key (n - 1) heap) members >>= λ ps. pure (p.Tuple (length members) ∷ ps))) s
  unfolding inner_key
  tuple_more zero h = absurd (h refl)
  tuple_more (suc n) h = let e : suc n - 1 ≡ n = omega arith in rw e refl

-- what is known of an iteration of the loop, where `all` is what the whole loop gives
module _ (hash : Val → Does ℕ (List Part)) (xs : List Val) (i s : ℕ) (acc : List Part) (all : Out ℕ (List Part)) (inv : and_then (along hash (drop i xs) s) (λ ps. gives (acc ++ ps)) ≡ all) (x : Val) (h : slice_get xs i ≡ Some x) where
  along_now : and_then (and_then (hash x s) (λ ps. along hash (drop (i + 1) xs) >>= λ qs. pure (ps ++ qs))) (λ ps. gives (acc ++ ps)) ≡ all
  along_now = rw (drop_there xs i x h) at inv

  pub along_fault : (e : Halt) (t u : ℕ) → SaysItems (hash x s) (Err e) t → SaysItems all (Err e) u
  along_fault (Code c) t u said = sym along_now ∙ ap (λ o. and_then (and_then o (λ ps. along hash (drop (i + 1) xs) >>= λ qs. pure (ps ++ qs))) (λ ps. gives (acc ++ ps))) said
  along_fault (Memory _) t u said = tt

  along_joined : (ps : List Part) (o : Out ℕ (List Part)) → and_then o (λ qs. gives (acc ++ ps ++ qs)) ≡ and_then (and_then o (λ qs. pure (ps ++ qs))) (λ r. gives (acc ++ r))
  along_joined ps (gives qs u) = ap (λ l. gives l u) (append_assoc acc ps qs)
  along_joined ps (faults c) = refl

  pub along_more : (ps new : List Part) (t : ℕ) → new ≡ acc ++ ps → hash x s ≡ gives ps t → and_then (along hash (drop (i + 1) xs) t) (λ qs. gives (new ++ qs)) ≡ all
  along_more ps new t k e = ap (λ n. and_then (along hash (drop (i + 1) xs) t) (λ qs. gives (n ++ qs))) k ∙ along_joined ps (along hash (drop (i + 1) xs) t) ∙ (rw e at along_now)
