-- A set of keys that asks only its own members, and whose leaves read alike at two states of the files, has the same
-- values at both.
use Rattle.std.proofs.Common.{◌≡◌, List, [], Option, None, refl, sym, ◌∙◌, subst}
use Rattle.std.specs.List.{AllByRecursion}
use Rattle.engine_semantics.specs.Reply.{Reply}
use Rattle.engine_semantics.specs.Value.{Grounded, is_leaf, has_run, Turns, ends, asks, AllGrounded, none, one, IsUngrounded, First, at_head, further, Stops, here, later, Walk, stay, step, Cyclic, Settles, leaf, run, closed, EachMember}
use Rattle.engine_semantics.proofs.ClosedSets.{stops_map, never, ungrounded, same_stops, stops_member}
use Rattle.engine_semantics.proofs.Unique.{same_turns}

module _ {K V : Type 0} (next : K → List V → Reply K V) (cycle : List K → V) (read later_read : K → Option V)
    (S : K → Type 0)
    (reads : (k : K) → S k → later_read k ≡ read k)
    (groups_of : (k : K) → S k → List (List K)) (value_of : (k : K) → S k → V)
    (settled : (k : K) (s : S k) → Settles next read cycle k (groups_of k s) (value_of k s))
    (asks_own : (k : K) (s : S k) → EachMember S (groups_of k s)) where
  own_turns : {k : K} {gs : List (List K)} {v : V} → S k → read k ≡ None → Turns next read k [] gs v → EachMember S gs
  own_turns {k = k} {gs = gs} s e t = go (settled k s) (asks_own k s)
    where
      go : {hs : List (List K)} {w : V} → Settles next read cycle k hs w → EachMember S hs → EachMember S gs
      go (leaf f) m = cc
      go (run f u) m = subst (EachMember S) (sym (same_turns next read t u refl refl).0) m
      go {w = w} (closed f u c) m = absurd (ungrounded next read f u _ (has_run e t))

  own_stops : {k : K} {gs : List (List K)} {j : K} → S k → read k ≡ None → Stops next read (IsUngrounded next read) k [] gs j → EachMember S gs
  own_stops {k = k} {gs = gs} s e t = go (settled k s) (asks_own k s)
    where
      go : {hs : List (List K)} {w : V} → Settles next read cycle k hs w → EachMember S hs → EachMember S gs
      go (leaf f) m = cc
      go (run f u) m = absurd (ungrounded next read e t _ (has_run f u))
      go (closed f u c) m = subst (EachMember S) (sym (same_stops next read t u refl refl).0) m

  mutual
    kept_value : {k : K} {v : V} → Grounded next read k v → S k → Grounded next later_read k v
    kept_value {k = k} (is_leaf e) s = is_leaf (reads k s ∙ e)
    kept_value {k = k} (has_run e t) s = has_run (reads k s ∙ e) (kept_turns t (own_turns s e t))

    kept_turns : {k : K} {a : List V} {gs : List (List K)} {v : V} → Turns next read k a gs v → EachMember S gs → Turns next later_read k a gs v
    kept_turns (ends e) m = ends e
    kept_turns (asks e g t) m = asks e (kept_values g m.0) (kept_turns t m.1)

    kept_values : {ks : List K} {vs : List V} → AllGrounded next read ks vs → AllByRecursion S ks → AllGrounded next later_read ks vs
    kept_values none m = none
    kept_values (one e g) m = one (kept_value e m.0) (kept_values g m.1)

  -- a member of the set that is not grounded
  Waits : K → Type 0
  Waits k = S k × IsUngrounded next read k

  kept_first : {ks : List K} {j : K} → First next read (IsUngrounded next read) ks j → AllByRecursion S ks → First next later_read Waits ks j
  unfolding Waits
  kept_first (at_head u) m = at_head (m.0, u)
  kept_first (further g f) m = further (kept_value g m.0) (kept_first f m.1)

  kept_stops : {k : K} {a : List V} {gs : List (List K)} {j : K} → Stops next read (IsUngrounded next read) k a gs j → EachMember S gs → Stops next later_read Waits k a gs j
  kept_stops (here e f) m = here e (kept_first f m.0)
  kept_stops (later e g s) m = later e (kept_values g m.0) (kept_stops s m.1)

  waits_read : (k : K) → Waits k → later_read k ≡ None
  unfolding Waits
  waits_read k w = go (settled k w.0)
    where
      go : {gs : List (List K)} {v : V} → Settles next read cycle k gs v → later_read k ≡ None
      go {v = v} (leaf e) = absurd (w.1 v (is_leaf e))
      go {v = v} (run e t) = reads k w.0 ∙ e
      go (closed e s c) = reads k w.0 ∙ e

  waits_stops : (k : K) → Waits k → (gs : List (List K)) × (j : K) × Stops next later_read Waits k [] gs j
  unfolding Waits
  waits_stops k w = go (settled k w.0)
    where
      go : {gs : List (List K)} {v : V} → Settles next read cycle k gs v → (hs : List (List K)) × (j : K) × Stops next later_read Waits k [] hs j
      go {v = v} (leaf e) = absurd (w.1 v (is_leaf e))
      go {v = v} (run e t) = absurd (w.1 v (has_run e t))
      go {gs = gs} (closed {j = j} e s c) = (gs, j, kept_stops s (own_stops w.0 e s))

  waits : (k : K) → Waits k → IsUngrounded next later_read k
  waits k w v g = never next later_read Waits waits_read waits_stops g w

  -- it stops at the same member after the change
  stops_after : {k : K} {gs : List (List K)} {j : K} → Stops next read (IsUngrounded next read) k [] gs j → EachMember S gs → Stops next later_read (IsUngrounded next later_read) k [] gs j
  stops_after s m = stops_map next later_read waits (kept_stops s m)

  kept_walk : {k : K} {keys : List K} {j : K} → Walk next read k keys j → S k → Walk next later_read k keys j × S j
  kept_walk stay s = (stay, s)
  kept_walk {k = k} (step e t w) s =
      let m = own_stops s e t in
      let r = kept_walk w (stops_member next read S t m) in
      (step (reads k s ∙ e) (stops_after t m) r.0, r.1)

  kept_cyclic : {k : K} {v : V} → Cyclic next read cycle k v → S k → Cyclic next later_read cycle k v
  kept_cyclic c s =
      let w = kept_walk c.comes s in
      record { before = c.before; m = c.m; rest = c.rest; comes = w.0; returns = (kept_walk c.returns w.1).0; once = c.once; value = c.value }

  -- each member of the set asks for the same groups, and has the same value
  pub kept : (k : K) (s : S k) → Settles next later_read cycle k (groups_of k s) (value_of k s)
  kept k s = go (settled k s) (asks_own k s)
    where
      go : {gs : List (List K)} {v : V} → Settles next read cycle k gs v → EachMember S gs → Settles next later_read cycle k gs v
      go (leaf e) m = leaf (reads k s ∙ e)
      go (run e t) m = run (reads k s ∙ e) (kept_turns t m)
      go (closed e t c) m = closed (reads k s ∙ e) (stops_after t m) (kept_cyclic c s)
