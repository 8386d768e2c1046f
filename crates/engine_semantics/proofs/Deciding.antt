-- A quiet state tells exactly which choices are possible.
use Rattle.std.proofs.Common.{◌≡◌, ◌⊎◌, inl, inr, ℕ, zero, suc, ◌<◌, ◌≤◌, List, [], ◌∷◌, ◌++◌, length, Option, Some, refl, sym, ◌∙◌, ap, subst, arith}
use Rattle.engine_semantics.specs.Reply.{Reply, Ask, Done}
use Rattle.engine_semantics.specs.Value.{AllDiffer, AllGrounded, In, first, after}
use Rattle.engine_semantics.specs.Graph.{Record}
use Rattle.engine_semantics.specs.Choices.{Choice, Backs, nothing, back, other, Comes, stay, asks, Changed, before, present, Unchanged}
use Rattle.engine_semantics.specs.States.{HasBacks}
use Rattle.engine_semantics.proofs.Unique.{same_values}
use Rattle.engine_semantics.proofs.Plain.{one_value}

-- fewer turns were taken back too
module _ {K : Type 0} (k : K) where
  less : {n m : ℕ} {cs : List (Choice K)} → Backs k m cs → m ≡ suc n → Backs k n cs
  less nothing e = absurd (omega arith)
  less {n = n} (back {n = i} {cs = cs} b) e = let q : i ≡ n = omega arith in other (subst (λ (x : ℕ). Backs k x cs) q b)
  less (other b) e = other (less b e)

  at_or_below : (n m : ℕ) → m ≤ suc n → (m ≡ suc n) ⊎ (m ≤ n)
  at_or_below n m h = grind arith

  pub fewer : (n m : ℕ) {cs : List (Choice K)} → m ≤ n → Backs k n cs → Backs k m cs
  fewer zero m {cs = cs} h b = let q : zero ≡ m = omega arith in subst (λ (x : ℕ). Backs k x cs) q b
  fewer (suc n) m {cs = cs} h b = elim (at_or_below n m h) [
    | inl e ↦ subst (λ (x : ℕ). Backs k x cs) (sym e) b
    | inr l ↦ fewer n m l (less b refl)
  ]

  pub at_most : {n : ℕ} (m : ℕ) {cs : List (Choice K)} → HasBacks k n cs → Backs k m cs → m ≤ n
  at_most {n = n} m {cs = cs} h b = go (split n m)
    where
      split : (n m : ℕ) → (m ≤ n) ⊎ (suc n ≤ m)
      split n m = grind arith

      go : (m ≤ n) ⊎ (suc n ≤ m) → m ≤ n
      go (inl l) = l
      go (inr l) = absurd (h.no_more (fewer m (suc n) l b))

-- two ways to split a list at an element
pub two_splits : {X : Type 0} (p p' q q' : List X) {g g' : X} → p ++ g ∷ q ≡ p' ++ g' ∷ q' → ((p ≡ p') × (g ≡ g')) ⊎ (In g p' ⊎ In g' p)
two_splits [] [] q q' e = inl (refl, cc)
two_splits [] (y ∷ p') q q' {g = g} e = let h : g ≡ y = cc in inr (inl (subst (λ z. In z (y ∷ p')) (sym h) first))
two_splits (x ∷ p) [] q q' {g' = g'} e = let h : x ≡ g' = cc in inr (inr (subst (λ z. In z (x ∷ p)) h first))
two_splits {X} (x ∷ p) (y ∷ p') q q' {g = g} {g' = g'} e = let h : x ≡ y = cc in let t : p ++ g ∷ q ≡ p' ++ g' ∷ q' = cc in go h (two_splits p p' q q' t)
  where
    go : x ≡ y → ((p ≡ p') × (g ≡ g')) ⊎ (In g p' ⊎ In g' p) → ((x ∷ p ≡ y ∷ p') × (g ≡ g')) ⊎ (In g (y ∷ p') ⊎ In g' (x ∷ p))
    go h (inl s) = let a = s.0 in inl (cc, s.1)
    go h (inr (inl m)) = inr (inl (after m))
    go h (inr (inr m)) = inr (inr (after m))

pub in_middle : {X : Type 0} (p : List X) {g : X} (q : List X) → In g (p ++ g ∷ q)
in_middle [] q = first
in_middle (x ∷ p) q = after (in_middle p q)

pub length_snoc : {X : Type 0} (p : List X) (g : X) → length (p ++ g ∷ []) ≡ suc (length p)
length_snoc [] g = refl
length_snoc (x ∷ p) g = let h = length_snoc p g in omega arith

module _ {K V : Type 0} (next : K → List V → Reply K V) (cycle : List K → V) (read : K → Option V) where
  -- a longer way of the same turns asks what the shorter one asks next
  pub along : {k : K} {a a' b b' : List V} {p p' : List (List K)} {g : List K} → Comes next cycle read k a p b → Comes next cycle read k a' p' b' → a ≡ a' → next k b ≡ Ask g → suc (length p) ≤ length p' → In g p'
  along stay stay i e l = absurd (omega arith)
  along {g = g} stay (asks {group = h} {groups = hs} f s t) i e l = let q : g ≡ h = cc in subst (λ x. In x (h ∷ hs)) (sym q) first
  along (asks f s t) stay i e l = absurd (omega arith)
  along (asks {group = x} {groups = xs} f s t) (asks {group = y} {groups = ys} f' s' t') i e l =
      let q : x ≡ y = cc in
      let r = same_values next read s s' q in
      after (along t t' (cc) e (omega arith))

  pub not_past : {k : K} {a a' b b' : List V} {p p' : List (List K)} {v : V} → Comes next cycle read k a p b → Comes next cycle read k a' p' b' → a ≡ a' → next k b ≡ Done v → suc (length p) ≤ length p' → ⊥
  not_past stay stay i e l = absurd (omega arith)
  not_past stay (asks f s t) i e l = cc
  not_past (asks f s t) stay i e l = absurd (omega arith)
  not_past (asks {group = x} f s t) (asks {group = y} f' s' t') i e l =
      let q : x ≡ y = cc in
      let r = same_values next read s s' q in
      not_past t t' (cc) e (omega arith)

  pub same_end : {k : K} {a a' b b' : List V} {p p' : List (List K)} → Comes next cycle read k a p b → Comes next cycle read k a' p' b' → a ≡ a' → length p ≡ length p' → b ≡ b'
  same_end stay stay i l = i
  same_end stay (asks f s t) i l = absurd (omega arith)
  same_end (asks f s t) stay i l = absurd (omega arith)
  same_end (asks {group = x} f s t) (asks {group = y} f' s' t') i l =
      let q : x ≡ y = cc in
      let r = same_values next read s s' q in
      same_end t t' (cc) (omega arith)

  -- each of these groups is grounded
  pub come_grounded : {k : K} {a b : List V} {p : List (List K)} {g : List K} → Comes next cycle read k a p b → In g p → (vs : List V) × AllGrounded next read g vs
  come_grounded stay h = elim h [ ]
  come_grounded (asks {values = vs} f s t) first = (vs, s)
  come_grounded (asks f s t) (after h) = come_grounded t h

  -- one group more
  pub come_on : {k : K} {a b : List V} {p : List (List K)} {g : List K} {vs : List V} → Comes next cycle read k a p b → next k b ≡ Ask g → AllGrounded next read g vs → Comes next cycle read k a (p ++ g ∷ []) (b ++ vs)
  come_on stay e s = asks e s stay
  come_on (asks f t h) e s = asks f t (come_on h e s)

  module _ (turned : (x : K) (xs : List K) → AllDiffer (x ∷ xs) → cycle (x ∷ xs) ≡ cycle (xs ++ x ∷ []))
      (records : K → Option (Record K V)) where
    -- what changed is not unchanged
    pub never_both : {u : ℕ} {j : K} → Changed next cycle read records u j → Unchanged next cycle read records u j → ⊥
    never_both {u = u} (before {s = s} e l) n =
        let q : Some s ≡ Some n.of_j = sym e ∙ n.recorded in
        let h : s ≡ n.of_j = cc in
        let t : u < n.of_j.changed_at = subst (λ (y : Record K V). u < y.changed_at) h l in
        let early = n.early in
        omega arith
    never_both (present {s = s} {v = v} e h d) n =
        let q : Some s ≡ Some n.of_j = sym e ∙ n.recorded in
        let i : s ≡ n.of_j = cc in
        let w : v ≡ n.of_j.value = one_value next read cycle turned h.1 n.same.1 in
        d (w ∙ ap (λ (y : Record K V). y.value) (sym i))
