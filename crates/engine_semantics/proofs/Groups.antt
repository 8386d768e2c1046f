-- The recorded groups of a settled key are those that it asks.
use Rattle.std.proofs.Common.{◌≡◌, List, [], ◌∷◌, Option, refl, sym, subst}
use Rattle.engine_semantics.specs.Reply.{Reply, Ask}
use Rattle.engine_semantics.specs.Value.{Turns, ends, asks, Grounded, AllGrounded, none, one, IsUngrounded, First, at_head, further, Stops, here, later, Settles, leaf, run, closed, In, first, after}
use Rattle.engine_semantics.specs.Choices as choices
use Rattle.engine_semantics.specs.Reachability.{AsksGroup}
use Rattle.engine_semantics.proofs.Unique.{same_values}

module _ {K V : Type 0} (next : K → List V → Reply K V) (cycle : List K → V) (read : K → Option V) where
  no_first : {ks ls : List K} {vs : List V} {j : K} → AllGrounded next read ks vs → First next read (IsUngrounded next read) ls j → ks ≡ ls → ⊥
  no_first none (at_head u) e = cc
  no_first none (further g m) e = cc
  no_first (one {k = k} {v = v} g gs) (at_head {j = j} u) e = let q : k ≡ j = cc in u v (subst (λ x. Grounded next read x v) q g)
  no_first (one g gs) (further h m) e = no_first gs m (cc)

  from_turns : {k : K} {a a' b : List V} {p gs : List (List K)} {v : V} {g : List K} → choices.Comes next cycle read k a p b → Turns next read k a' gs v → a ≡ a' → next k b ≡ Ask g → In g gs
  from_turns choices.stay (ends f) i e = cc
  from_turns {g = g} choices.stay (asks {group = h} {groups = hs} f s t) i e = let q : g ≡ h = cc in subst (λ x. In x (h ∷ hs)) (sym q) first
  from_turns (choices.asks f s c) (ends f') i e = cc
  from_turns (choices.asks {group = x} f s c) (asks {group = y} f' s' t) i e =
      let q : x ≡ y = cc in
      let r = same_values next read s s' q in
      after (from_turns c t (cc) e)

  from_stops : {k : K} {a a' b : List V} {p gs : List (List K)} {j : K} {g : List K} → choices.Comes next cycle read k a p b → Stops next read (IsUngrounded next read) k a' gs j → a ≡ a' → next k b ≡ Ask g → In g gs
  from_stops {g = g} choices.stay (here {group = h} f m) i e = let q : g ≡ h = cc in subst (λ x. In x (h ∷ [])) (sym q) first
  from_stops {g = g} choices.stay (later {group = h} {groups = hs} f s t) i e = let q : g ≡ h = cc in subst (λ x. In x (h ∷ hs)) (sym q) first
  from_stops (choices.asks {group = x} f s c) (here {group = y} f' m) i e = let q : x ≡ y = cc in absurd (no_first s m q)
  from_stops (choices.asks {group = x} f s c) (later {group = y} f' s' t) i e =
      let q : x ≡ y = cc in
      let r = same_values next read s s' q in
      after (from_stops c t (cc) e)

  -- what it asks is recorded
  pub asked_recorded : {k : K} {gs : List (List K)} {v : V} {g : List K} → Settles next read cycle k gs v → AsksGroup next cycle read k g → In g gs
  asked_recorded (leaf e) a = let n = a.no_leaf in cc
  asked_recorded (run e t) a = from_turns a.comes t refl a.asks
  asked_recorded (closed e s c) a = from_stops a.comes s refl a.asks
