-- The groups that a check passed are those that the turns ask now, and the group that it waits for is the one asked
-- next.
use Rattle.std.proofs.Common.{◌≡◌, ◌≢◌, List, [], ◌∷◌, ◌++◌, Option, subst}
use Rattle.engine_semantics.specs.Reply.{Reply, Ask}
use Rattle.engine_semantics.specs.Value.{AllDiffer, Grounded, Turns, ends, asks, AllGrounded, IsUngrounded, Stops, here, later, Settles, leaf, run, closed, EachMember}
use Rattle.engine_semantics.specs.Choices as choices
use Rattle.engine_semantics.proofs.ChangePruning.{Same, same_all}

module _ {K V : Type 0} (next : K → List V → Reply K V) (cycle : List K → V)
    (turned : (x : K) (xs : List K) → AllDiffer (x ∷ xs) → cycle (x ∷ xs) ≡ cycle (xs ++ x ∷ []))
    (read later_read : K → Option V)
    (plain : (k : K) (v : V) (xs : List K) → Grounded next read k v → v ≢ cycle xs)
    (later_plain : (k : K) (v : V) (xs : List K) → Grounded next later_read k v → v ≢ cycle xs) where
  abbrev IsSame : K → Type 0
  IsSame = Same next cycle turned read later_read plain later_plain

  -- k comes through the groups p, and asks g next
  abbrev pub ComesTo : K → List V → List (List K) → List K → Type 0
  ComesTo k a p g = (b : List V) × choices.Comes next cycle later_read k a p b × (next k b ≡ Ask g)

  pass_turns : {k : K} {a : List V} {gs : List (List K)} {v : V} → Turns next read k a gs v → (p rest : List (List K)) (g : List K) → gs ≡ p ++ g ∷ rest → EachMember IsSame p → ComesTo k a p g
  pass_turns (ends e) [] rest g h m = cc
  pass_turns (ends e) (x ∷ p) rest g h m = cc
  pass_turns {a = a} (asks {group = y} e s t) [] rest g h m = let q : y ≡ g = cc in (a, choices.stay, cc)
  pass_turns (asks {group = y} {values = vs} {groups = ys} e s t) (x ∷ p) rest g h m =
      let q : y ≡ x = cc in
      let u : ys ≡ p ++ g ∷ rest = cc in
      let r = pass_turns t p rest g u m.1 in
      (r.0, choices.asks (cc) (same_all next cycle turned read later_read plain later_plain (subst (λ (z : List K). AllGrounded next read z vs) q s) m.0) r.1, r.2)

  pass_stops : {k : K} {a : List V} {gs : List (List K)} {j : K} → Stops next read (IsUngrounded next read) k a gs j → (p rest : List (List K)) (g : List K) → gs ≡ p ++ g ∷ rest → EachMember IsSame p → ComesTo k a p g
  pass_stops {a = a} (here {group = y} e f) [] rest g h m = let q : y ≡ g = cc in (a, choices.stay, cc)
  pass_stops (here e f) (x ∷ []) rest g h m = cc
  pass_stops (here e f) (x ∷ z ∷ p) rest g h m = cc
  pass_stops {a = a} (later {group = y} e s t) [] rest g h m = let q : y ≡ g = cc in (a, choices.stay, cc)
  pass_stops (later {group = y} {values = vs} {groups = ys} e s t) (x ∷ p) rest g h m =
      let q : y ≡ x = cc in
      let u : ys ≡ p ++ g ∷ rest = cc in
      let r = pass_stops t p rest g u m.1 in
      (r.0, choices.asks (cc) (same_all next cycle turned read later_read plain later_plain (subst (λ (z : List K). AllGrounded next read z vs) q s) m.0) r.1, r.2)

  pub pass_comes : {k : K} {gs : List (List K)} {v : V} → Settles next read cycle k gs v → (p rest : List (List K)) (g : List K) → gs ≡ p ++ g ∷ rest → EachMember IsSame p → ComesTo k [] p g
  pass_comes (leaf e) [] rest g h m = cc
  pass_comes (leaf e) (x ∷ p) rest g h m = cc
  pass_comes (run e t) p rest g h m = pass_turns t p rest g h m
  pass_comes (closed e t c) p rest g h m = pass_stops t p rest g h m
