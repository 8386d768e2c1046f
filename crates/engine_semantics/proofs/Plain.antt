-- What holds of each leaf's value and is kept by each turn holds of each grounded value.
use Rattle.std.proofs.Common.{◌≡◌, List, [], ◌∷◌, ◌++◌, Option, Some, refl}
use Rattle.std.specs.List.{AllByRecursion}
use Rattle.engine_semantics.specs.Reply.{Reply, Done}
use Rattle.engine_semantics.specs.Value.{AllDiffer, Grounded, is_leaf, has_run, Turns, ends, asks, AllGrounded, none, one, Settles, leaf, run, closed}
use Rattle.engine_semantics.proofs.Unique.{same_value}
use Rattle.engine_semantics.proofs.ClosedSets.{ungrounded}
use Rattle.engine_semantics.proofs.Loops.{same_cycle}

module _ {K V : Type 0} (next : K → List V → Reply K V) (read : K → Option V) where
  module _ (P : V → Type 0) (leaves : (k : K) (v : V) → read k ≡ Some v → P v)
      (turns : (k : K) (answers : List V) (v : V) → AllByRecursion P answers → next k answers ≡ Done v → P v) where
    join_all : (vs ws : List V) → AllByRecursion P vs → AllByRecursion P ws → AllByRecursion P (vs ++ ws)
    join_all [] ws a b = b
    join_all (v ∷ vs) ws a b = (a.0, join_all vs ws a.1 b)

    mutual
      pub of_grounded : {k : K} {v : V} → Grounded next read k v → P v
      of_grounded (is_leaf e) = leaves _ _ e
      of_grounded (has_run e t) = of_turns t tt

      of_turns : {k : K} {a : List V} {gs : List (List K)} {v : V} → Turns next read k a gs v → AllByRecursion P a → P v
      of_turns (ends e) h = turns _ _ _ h e
      of_turns (asks {answers = a} {values = vs} e g t) h = of_turns t (join_all a vs h (of_all g))

      of_all : {ks : List K} {vs : List V} → AllGrounded next read ks vs → AllByRecursion P vs
      of_all none = tt
      of_all (one e g) = (of_grounded e, of_all g)

  -- a key has one value
  module _ (cycle : List K → V) (turned : (x : K) (xs : List K) → AllDiffer (x ∷ xs) → cycle (x ∷ xs) ≡ cycle (xs ++ x ∷ [])) where
    pub one_value : {k : K} {gs hs : List (List K)} {v w : V} → Settles next read cycle k gs v → Settles next read cycle k hs w → v ≡ w
    one_value (leaf e) (leaf f) = cc
    one_value (leaf e) (run f u) = cc
    one_value (leaf e) (closed f u c) = cc
    one_value (run e t) (leaf f) = cc
    one_value (run e t) (run f u) = same_value next read (has_run e t) (has_run f u) refl
    one_value (run e t) (closed f u c) = absurd (ungrounded next read f u _ (has_run e t))
    one_value (closed e t c) (leaf f) = cc
    one_value (closed e t c) (run f u) = absurd (ungrounded next read e t _ (has_run f u))
    one_value (closed e t c) (closed f u d) = same_cycle next read cycle turned c d
