-- Change pruning: a key whose recorded groups have members with the same values at two states of the files has the same
-- value and groups at both.
use Rattle.std.proofs.Common.{◌≡◌, ◌≢◌, List, [], ◌∷◌, ◌++◌, Option, None, refl, sym, ◌∙◌, subst}
use Rattle.std.specs.List.{AllByRecursion}
use Rattle.engine_semantics.specs.Reply.{Reply}
use Rattle.engine_semantics.specs.Value.{AllDiffer, Grounded, is_leaf, has_run, Turns, ends, asks, AllGrounded, none, one, IsUngrounded, First, at_head, further, Stops, here, later, step, Cyclic, Settles, leaf, run, closed, HasValue, EachMember}
use Rattle.engine_semantics.proofs.Unique.{same_value}
use Rattle.engine_semantics.proofs.ClosedSets.{ungrounded, stops_member}
use Rattle.engine_semantics.proofs.Loops.{same_cycle}

module _ {K V : Type 0} (next : K → List V → Reply K V) (cycle : List K → V)
    (turned : (x : K) (xs : List K) → AllDiffer (x ∷ xs) → cycle (x ∷ xs) ≡ cycle (xs ++ x ∷ []))
    (read later_read : K → Option V)
    (plain : (k : K) (v : V) (xs : List K) → Grounded next read k v → v ≢ cycle xs)
    (later_plain : (k : K) (v : V) (xs : List K) → Grounded next later_read k v → v ≢ cycle xs) where
  -- a key that has one value at both
  abbrev pub Same : K → Type 0
  Same j = (v : V) × HasValue next read cycle j v × HasValue next later_read cycle j v

  same_grounded : {j : K} {w : V} → Grounded next read j w → Same j → Grounded next later_read j w
  same_grounded {j = j} {w = w} g s = there s.2.1 (here_ s.1.1)
    where
      here_ : {gs : List (List K)} {v : V} → Settles next read cycle j gs v → v ≡ w
      here_ (leaf e) = same_value next read (is_leaf e) g refl
      here_ (run e t) = same_value next read (has_run e t) g refl
      here_ (closed e t c) = absurd (ungrounded next read e t w g)

      there : {gs : List (List K)} {v : V} → Settles next later_read cycle j gs v → v ≡ w → Grounded next later_read j w
      there (leaf e) h = subst (Grounded next later_read j) h (is_leaf e)
      there (run e t) h = subst (Grounded next later_read j) h (has_run e t)
      there (closed e t c) h = absurd (plain j w (c.m ∷ c.rest) g (sym h ∙ c.value))

  same_ungrounded : {j : K} → IsUngrounded next read j → Same j → IsUngrounded next later_read j
  same_ungrounded {j = j} u s w g = here_ s.1.1
    where
      there : {gs : List (List K)} {v : V} → Settles next later_read cycle j gs v → (xs : List K) → v ≢ cycle xs
      there (leaf e) xs h = later_plain j _ xs (is_leaf e) h
      there (run e t) xs h = later_plain j _ xs (has_run e t) h
      there (closed e t c) xs h = ungrounded next later_read e t w g

      here_ : {gs : List (List K)} → Settles next read cycle j gs s.0 → ⊥
      here_ (leaf e) = u _ (is_leaf e)
      here_ (run e t) = u _ (has_run e t)
      here_ (closed e t c) = there s.2.1 (c.m ∷ c.rest) c.value

  pub same_all : {ks : List K} {vs : List V} → AllGrounded next read ks vs → AllByRecursion Same ks → AllGrounded next later_read ks vs
  same_all none m = none
  same_all (one e g) m = one (same_grounded e m.0) (same_all g m.1)

  same_runs : {k : K} {a : List V} {gs : List (List K)} {v : V} → Turns next read k a gs v → EachMember Same gs → Turns next later_read k a gs v
  same_runs (ends e) m = ends e
  same_runs (asks e g t) m = asks e (same_all g m.0) (same_runs t m.1)

  same_first : {ks : List K} {j : K} → First next read (IsUngrounded next read) ks j → AllByRecursion Same ks → First next later_read (IsUngrounded next later_read) ks j
  same_first (at_head u) m = at_head (same_ungrounded u m.0)
  same_first (further g f) m = further (same_grounded g m.0) (same_first f m.1)

  same_stop : {k : K} {a : List V} {gs : List (List K)} {j : K} → Stops next read (IsUngrounded next read) k a gs j → EachMember Same gs → Stops next later_read (IsUngrounded next later_read) k a gs j
  same_stop (here e f) m = here e (same_first f m.0)
  same_stop (later e g s) m = later e (same_all g m.0) (same_stop s m.1)

  -- from the value of the member at which k stops
  cyclic_before : {r : K → Option V} {k : K} {gs : List (List K)} {j : K} {v : V} → r k ≡ None → Stops next r (IsUngrounded next r) k [] gs j → Cyclic next r cycle j v → Cyclic next r cycle k v
  cyclic_before {k = k} e s c = record { before = k ∷ c.before; m = c.m; rest = c.rest; comes = step e s c.comes; returns = c.returns; once = c.once; value = c.value }

  same_cyclic : {k : K} {gs : List (List K)} {j : K} {v : V} → read k ≡ None → later_read k ≡ None → Stops next read (IsUngrounded next read) k [] gs j → EachMember Same gs → Cyclic next read cycle k v → Cyclic next later_read cycle k v
  same_cyclic {k = k} {gs = gs} {j = j} {v = v} e f t m c = here_ s.1.1
    where
      s : Same j
      s = stops_member next read Same t m

      u : IsUngrounded next later_read j
      u = same_ungrounded (stopped t) s
        where
          first_is : {P : K → Type 0} {ks : List K} {i : K} → First next read P ks i → P i
          first_is (at_head p) = p
          first_is (further g n) = first_is n

          stopped : {P : K → Type 0} {l : K} {a : List V} {hs : List (List K)} {i : K} → Stops next read P l a hs i → P i
          stopped (here h n) = first_is n
          stopped (later h g n) = stopped n

      there : {hs : List (List K)} {w : V} → Settles next later_read cycle j hs w → v ≡ w → Cyclic next later_read cycle k v
      there {w = w} (leaf h) q = absurd (u w (is_leaf h))
      there {w = w} (run h n) q = absurd (u w (has_run h n))
      there (closed h n d) q = subst (Cyclic next later_read cycle k) (sym q) (cyclic_before f (same_stop t m) d)

      here_ : {hs : List (List K)} → Settles next read cycle j hs s.0 → Cyclic next later_read cycle k v
      here_ (leaf h) = absurd (later_plain_at (is_leaf h))
        where
          later_plain_at : Grounded next read j s.0 → ⊥
          later_plain_at g = u s.0 (same_grounded g s)
      here_ (run h n) = absurd (u s.0 (same_grounded (has_run h n) s))
      here_ (closed h n d) = there s.2.1 (same_cycle next read cycle turned c (cyclic_before e t d))

  pub pruned : {k : K} {gs : List (List K)} {v : V} → later_read k ≡ read k → Settles next read cycle k gs v → EachMember Same gs → Settles next later_read cycle k gs v
  pruned r (leaf e) m = leaf (r ∙ e)
  pruned r (run e t) m = run (r ∙ e) (same_runs t m)
  pruned r (closed e t c) m = closed (r ∙ e) (same_stop t m) (same_cyclic e (r ∙ e) t m c)
