-- A stall: no key that is still open is grounded, each stops at a member, and following these comes to a cycle.
use Rattle.std.proofs.Common.{◌≡◌, ◌≢◌, ◌⊎◌, inl, inr, List, [], ◌∷◌, ◌++◌, Option, Some, None, refl, sym, ◌∙◌, ap, subst}
use Rattle.engine_semantics.specs.Reply.{Reply, Ask}
use Rattle.engine_semantics.specs.Value.{Grounded, is_leaf, has_run, Turns, ends, asks, AllGrounded, none, one, IsUngrounded, First, at_head, further, Stops, here, later, Walk, stay, step}
use Rattle.engine_semantics.specs.Choices as choices
use Rattle.engine_semantics.proofs.Unique.{same_values}

module _ {K V : Type 0} (next : K → List V → Reply K V) (read : K → Option V) where
  -- where each key of a set stops at a key of the set, or at one that is known not to be grounded, none is grounded
  module _ (P : K → Type 0) (none_is_leaf : (k : K) → P k → read k ≡ None)
      (each_stops : (k : K) → P k → (gs : List (List K)) × (j : K) × Stops next read (λ i. P i ⊎ IsUngrounded next read i) k [] gs j) where
    mutual
      pub never : {k : K} {v : V} → Grounded next read k v → P k → ⊥
      never {k = k} (is_leaf e) p = let f = none_is_leaf k p in cc
      never {k = k} (has_run e t) p = let s = each_stops k p in never_turns t s.2 refl refl

      never_turns : {k l : K} {a b : List V} {gs hs : List (List K)} {v : V} {j : K} → Turns next read k a gs v → Stops next read (λ i. P i ⊎ IsUngrounded next read i) l b hs j → k ≡ l → a ≡ b → ⊥
      never_turns (ends e) (here f m) h i = cc
      never_turns (ends e) (later f g s) h i = cc
      never_turns (asks {group = xs} e g t) (here {group = ys} f m) h i = let q : xs ≡ ys = cc in never_all g m q
      never_turns (asks {group = xs} e g t) (later {group = ys} f g' s) h i = let q : xs ≡ ys = cc in let r = same_values next read g g' q in never_turns t s h (cc)

      never_all : {ks ls : List K} {vs : List V} {j : K} → AllGrounded next read ks vs → First next read (λ i. P i ⊎ IsUngrounded next read i) ls j → ks ≡ ls → ⊥
      never_all none (at_head p) h = cc
      never_all none (further f m) h = cc
      never_all (one {k = k} {keys = ks} e g) (at_head {j = l} (inl p)) h = let q : l ≡ k = cc in never e (subst P q p)
      never_all (one {k = k} {v = v} {keys = ks} e g) (at_head {j = l} (inr u)) h = let q : k ≡ l = cc in u v (subst (λ x. Grounded next read x v) q e)
      never_all (one {k = k} {keys = ks} e g) (further {keys = ls} f m) h = let q : ks ≡ ls = cc in never_all g m q

  -- a way of turns that comes to a group with a first member where it stops
  pub stops_after : {P : K → Type 0} {cycle : List K → V} {k : K} {a b : List V} {p : List (List K)} {g : List K} {j : K} → choices.Comes next cycle read k a p b → next k b ≡ Ask g → First next read P g j → Stops next read P k a (p ++ g ∷ []) j
  stops_after choices.stay e m = here e m
  stops_after (choices.asks f s t) e m = later f s (stops_after t e m)

  pub walk_on : {k i j : K} {keys more : List K} → Walk next read k keys i → Walk next read i more j → Walk next read k (keys ++ more) j
  walk_on stay v = v
  walk_on (step n s w) v = step n s (walk_on w v)
