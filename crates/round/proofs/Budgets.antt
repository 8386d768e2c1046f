-- No more turns than the budget are handed out, and no hand that would be one more is passed over.
use Rattle.std.proofs.Common.{◌≡◌, ◌⊎◌, inl, inr, ℕ, zero, suc, ◌+◌, ◌<◌, ◌≤◌, nat_lt, List, [], ◌∷◌, ◌++◌, take, drop, Bool, true, false, Option, Some, refl, sym, ◌∙◌, ap, subst, arith, length, length-append, length-drop, slice_index_or}
use Rattle.std.specs.Prelude.{slice_get}
use Rattle.std.proofs.lemmas.List.{length-take}
use Rattle.std.proofs.lemmas.Option.{slice_get-get_or}
use Rattle.engine_semantics.specs.Reply.{Reply}
use Rattle.engine_semantics.specs.Choices.{Legal, none, one, IsPossible, IsStall}
use Rattle.engine_semantics.specs.Choices as choices
use Rattle.keys.specs.Cycles.{cycle}
use Rattle.keys.specs.declared.key.Key.{Key}
use Rattle.keys.specs.declared.value.Value.{Value}
use Rattle.node.specs.Graphs.{record_at}
use Rattle.round_nodes.specs.Invariants.{Past}
use Rattle.round_nodes.proofs.Grouping.{taken_got}
use Rattle.round.specs.Choosing.{IsPossibleAfter}
use Rattle.round.specs.Replays.{choice_view, newest, hands, hand_of, IsAt, AreLegal, IsSpentAt}
use Rattle.round.specs.declared.choice.Choice.{Choice}
use Rattle.round.specs.declared.choice.Choice.TheVariants as choice
use Rattle.round.proofs.PlayedChoices.{newest_snoc, hands_snoc}

-- a number is below another one, is the same, or is above it
which : (m n : ℕ) → (m < n) ⊎ ((m ≡ n) ⊎ (n < m))
which m n = go (nat_lt m n) refl (nat_lt n m) refl
  where
    go : (a : Bool) → nat_lt m n ≡ a → (b : Bool) → nat_lt n m ≡ b → (m < n) ⊎ ((m ≡ n) ⊎ (n < m))
    go true e b f = inl (grind (arith, e))
    go false e true f = inr (inr (grind (arith, f)))
    go false e false f = inr (inl (grind (arith, e, f)))

at_within : (made : List Choice) (n : ℕ) (c : Choice) → IsAt made n c → n < length made
at_within made n c e =
    let l = ap length e ∙ length-append (take n made) (c ∷ drop (n + 1) made) in
    let t = length-take n made in
    let d = length-drop (n + 1) made in
    omega (arith, l, t, d)

got_behind : (before : List Choice) (c : Choice) (rest : List Choice) → slice_get (before ++ c ∷ rest) (length before) ≡ Some c
got_behind [] c rest = refl
got_behind (x ∷ before) c rest = got_behind before c rest

pub at_got : (made : List Choice) (n : ℕ) (c : Choice) → IsAt made n c → slice_get made n ≡ Some c
at_got made n c e =
    let w = at_within made n c e in
    let t = length-take n made in
    let same : length (take n made) ≡ n = omega (arith, w, t) in
    ap (λ xs. slice_get xs n) e ∙ ap (slice_get (take n made ++ c ∷ drop (n + 1) made)) (sym same) ∙ got_behind (take n made) c (drop (n + 1) made)

there : (made : List Choice) (n : ℕ) (d : Choice) → n < length made → (c : Choice) × (slice_get made n ≡ Some c)
there made n d h = (slice_index_or made n d, slice_get-get_or made n d h)

-- fewer choices hand out no more turns
fewer_hands : (n m : ℕ) (made : List Choice) → n ≤ m → hands (take n made) ≤ hands (take m made)
fewer_hands zero m made h = omega arith
fewer_hands (suc n) zero made h = absurd (omega arith)
fewer_hands (suc n) (suc m) [] h = omega arith
fewer_hands (suc n) (suc m) (x ∷ made) h = let r = fewer_hands n m made (omega arith) in omega (arith, r)

hands_next : (made : List Choice) (n : ℕ) (c : Choice) → slice_get made n ≡ Some c → hands (take (n + 1) made) ≡ hands (take n made) + hand_of c
hands_next made n c e = ap hands (taken_got made n c e) ∙ hands_snoc (take n made) c

-- a hand after the budget's turns is one too many
one_too_many : (made : List Choice) (m : ℕ) (c : Choice) (read budget : ℕ) → slice_get made m ≡ Some c → hand_of c ≡ 1 → hands (take m made) ≡ budget → hands (take read made) ≤ budget → m < read → ⊥
one_too_many made m c read budget e h s b l =
    let n = hands_next made m c e in
    let f = fewer_hands (m + 1) read made (omega arith) in
    omega (arith, n, f)

module _ (next : Key → List Value → Reply Key Value) (read : Key → Option Value) (past : Past read) where
  abbrev IsPossibleBy : List (choices.Choice Key) → choices.Choice Key → Type 0
  IsPossibleBy cs c = IsPossibleAfter next read past cs c

  abbrev AreLegalBy : List (choices.Choice Key) → Type 0
  AreLegalBy cs = Legal next cycle read (record_at past.entry) past.roots cs

  legal_last : (c : choices.Choice Key) (cs : List (choices.Choice Key)) → AreLegalBy (c ∷ cs) → IsPossibleBy cs c × AreLegalBy cs
  legal_last c cs h = go h refl
    where
      go : {xs : List (choices.Choice Key)} → AreLegalBy xs → xs ≡ c ∷ cs → IsPossibleBy cs c × AreLegalBy cs
      go none e = cc
      go (one {c = x} {cs = ys} p l) e =
          let q : x ≡ c = cc in
          let r : ys ≡ cs = cc in
          (subst (λ z. IsPossibleBy z c) r (subst (IsPossibleBy ys) q p), subst AreLegalBy r l)

  legal_next : (made : List Choice) (n : ℕ) (c : Choice) → slice_get made n ≡ Some c → AreLegal next read past (take (n + 1) made) → IsPossibleBy (newest (take n made)) (choice_view c) × AreLegal next read past (take n made)
  legal_next made n c e l = legal_last (choice_view c) (newest (take n made)) (subst AreLegalBy (ap newest (taken_got made n c e) ∙ newest_snoc [] (take n made) c) l)

  -- each choice before the last was possible after those before it
  legal_at : (more : ℕ) (made : List Choice) (n : ℕ) (c : Choice) → slice_get made n ≡ Some c → n + more < length made → AreLegal next read past (take (n + more + 1) made) → IsPossibleBy (newest (take n made)) (choice_view c)
  legal_at zero made n c e w l = (legal_next made n c e (subst (λ k. AreLegal next read past (take k made)) (let q : n + 0 + 1 ≡ n + 1 = omega arith in q) l)).0
  legal_at (suc more) made n c e w l =
      let x = there made (n + suc more) c w in
      let r = legal_next made (n + suc more) x.0 x.1 l in
      legal_at more made n c e (omega arith) (subst (λ k. AreLegal next read past (take k made)) (let q : n + suc more ≡ n + more + 1 = omega arith in q) r.1)

  legal_before : (made : List Choice) (n m : ℕ) (c : Choice) → slice_get made n ≡ Some c → n < m → m < length made → AreLegal next read past (take m made) → IsPossibleBy (newest (take n made)) (choice_view c)
  legal_before made n m c e l w legal = go (m_of m l)
    where
      m_of : (k : ℕ) → n < k → (more : ℕ) × (k ≡ n + more + 1)
      m_of zero h = absurd (omega arith)
      m_of (suc k) h = elim (which n k) [
        | inl b ↦ let r = m_of k b in (suc r.0, (let q = r.1 in omega (arith, q)))
        | inr s ↦ elim s [ inl q ↦ (0, omega (arith, q)) | inr b ↦ absurd (omega (arith, b)) ]
      ]

      go : (more : ℕ) × (m ≡ n + more + 1) → IsPossibleBy (newest (take n made)) (choice_view c)
      go x = let q = x.1 in legal_at x.0 made n c e (omega (arith, q)) (subst (λ k. AreLegal next read past (take k made)) q legal)

  -- at a stall nothing is possible
  none_possible : (cs : List (choices.Choice Key)) → IsStall next cycle read (record_at past.entry) past.roots cs → (c : Choice) → IsPossibleBy cs (choice_view c) → ⊥
  none_possible cs s (choice.Hand k) p = s.0 k p
  none_possible cs s (choice.Back k) p = s.1 k p
  none_possible cs s (choice.Drop k) p = p.2 s

  -- where the next choice is not possible, no hand was passed over
  pub stopped_in_time : (made : List Choice) (budget n : ℕ) (x : Choice) → slice_get made n ≡ Some x → (IsPossibleBy (newest (take n made)) (choice_view x) → ⊥) → hands (take n made) ≤ budget → (m : ℕ) (c : Choice) → IsSpentAt next read past made budget m c → ⊥
  stopped_in_time made budget n x e barred b m c s = elim (which m n) [
    | inl l ↦ one_too_many made m c n budget (at_got made m c s.at) s.hand s.spent b l
    | inr r ↦ elim r [
      | inl q ↦ barred (subst (λ (y : Choice). IsPossibleBy (newest (take n made)) (choice_view y)) (same q) (subst (λ k. IsPossibleBy (newest (take k made)) (choice_view c)) q s.possible))
      | inr l ↦ barred (legal_before made n m x e l (at_within made m c s.at) s.legal)
    ]
  ]
    where
      same : m ≡ n → c ≡ x
      same q = let a = at_got made m c s.at in let f = ap (slice_get made) q in cc (a, f, e)

  -- at a stall no hand was passed over
  pub stalled_in_time : (made : List Choice) (budget n : ℕ) → IsStall next cycle read (record_at past.entry) past.roots (newest (take n made)) → hands (take n made) ≤ budget → (m : ℕ) (c : Choice) → IsSpentAt next read past made budget m c → ⊥
  stalled_in_time made budget n stall b m c s = elim (which m n) [
    | inl l ↦ one_too_many made m c n budget (at_got made m c s.at) s.hand s.spent b l
    | inr r ↦ elim r [
      | inl q ↦ none_possible (newest (take n made)) stall c (subst (λ k. IsPossibleBy (newest (take k made)) (choice_view c)) q s.possible)
      | inr l ↦
          let w = at_within made m c s.at in
          let x = there made n c (omega arith) in
          none_possible (newest (take n made)) stall x.0 (legal_before made n m x.0 x.1 l w s.legal)
    ]
  ]

  -- where all were read, no hand was one too many
  pub ended_in_time : (made : List Choice) (budget n : ℕ) → length made ≤ n → hands (take n made) ≤ budget → (m : ℕ) (c : Choice) → IsSpentAt next read past made budget m c → ⊥
  ended_in_time made budget n h b m c s = let w = at_within made m c s.at in one_too_many made m c n budget (at_got made m c s.at) s.hand s.spent b (omega arith)
