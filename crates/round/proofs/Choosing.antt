-- Which keys are ready tells exactly whose next turn the choices allow to be handed out.
use Rattle.std.proofs.Common.{◌≡◌, ◌≢◌, ◌⊎◌, inl, inr, ℕ, suc, ◌≤◌, true, false, List, [], ◌∷◌, ◌++◌, length, map, take, Option, Some, None, refl, sym, ◌∙◌, ap, subst, arith, append-nil, length-append}
use Rattle.engine_semantics.specs.Reply.{Reply, Ask, Done}
use Rattle.engine_semantics.specs.Value.{Grounded, AllGrounded, In, first, after, IsMember}
use Rattle.engine_semantics.specs.Value as value
use Rattle.engine_semantics.specs.Graph.{Record}
use Rattle.engine_semantics.specs.Choices.{Choice, Backs, IsOut, Comes, stay, asks, Changed, member, by_turn, Runs, Settled, CanHand}
use Rattle.engine_semantics.specs.Choices as choices
use Rattle.engine_semantics.proofs.Deciding.{fewer, at_most, two_splits, in_middle, length_snoc, along, not_past, same_end, come_grounded, come_on, never_both}
use Rattle.engine_semantics.proofs.Least.{Keeping, least_runs, least_settled}
use Rattle.keys.specs.Cycles.{cycle}
use Rattle.keys.proofs.CycleLaws.{turned}
use Rattle.keys.specs.Jobs.{JobView}
use Rattle.keys.specs.declared.key.Key.{Key}
use Rattle.keys.specs.declared.value.Value.{Value}
use Rattle.node.specs.Graphs.{GraphView, record_at}
use Rattle.node.proofs.Lists.{some_is, none_some, true_false, in_left, in_right}
use Rattle.round_nodes.specs.Nodes.{node_at, groups_of, IsClean, IsPlain, IsCurrent, IsBlocked, Stands, KeepsBack}
use Rattle.round_nodes.specs.Invariants.{IsNext, Past, IsWantedBy, AreUnchanged, HasStopped, HasBegun, IsRun, IsCheck, IsDoing, TellOut, IsOpenTruly, IsRunToEnd, HasEnded, by_read, by_check, by_turns, IsTrueOf}
use Rattle.round_nodes.specs.declared.table.Node.{Node}
use Rattle.round_nodes.specs.declared.table.Phase.{Phase}
use Rattle.round_nodes.specs.declared.table.Phase.TheVariants as phase
use Rattle.round_nodes.proofs.Settlings.{plain_grounded, cycle_ungrounded}
use Rattle.round_nodes.proofs.Wholes.{unsettled_not_clean}
use Rattle.round.specs.Moves.{IsOpenOrSettled}
use Rattle.round.specs.Choosing.{IsJobOut}
use Rattle.round_nodes.specs.Members.{plain_value, all_values, AreAnswers}
use Rattle.round.specs.Rounds.{IsBeside, IsOfJobOut, RoundView}
use Rattle.round.proofs.Ending.{asks_come, plain_values}
use Rattle.round_nodes.proofs.Grouping.{snoc_in, plain_has}
use Rattle.round.proofs.NextTurns.{asks_comes}
use Rattle.round.proofs.Reaching.{asks_last}
use Rattle.round.proofs.Seeking.{settled_by}

-- a list is empty or has a last element
last_or : {X : Type 0} (xs : List X) → (xs ≡ []) ⊎ ((ys : List X) × (y : X) × (xs ≡ ys ++ y ∷ []))
last_or [] = inl refl
last_or {X} (x ∷ xs) = go (last_or xs)
  where
    go : (xs ≡ []) ⊎ ((ys : List X) × (y : X) × (xs ≡ ys ++ y ∷ [])) → (x ∷ xs ≡ []) ⊎ ((ys : List X) × (y : X) × (x ∷ xs ≡ ys ++ y ∷ []))
    go (inl e) = inr ([], x, ap (λ z. x ∷ z) e)
    go (inr h) = inr (x ∷ h.0, h.1, ap (λ z. x ∷ z) h.2)

below : (n m : ℕ) → suc n ≤ suc m → (suc n ≤ m) ⊎ (n ≡ m)
below n m h = grind arith

regroup : (p : List (List Key)) (g : List Key) (rest : List (List Key)) → p ++ g ∷ rest ≡ (p ++ g ∷ []) ++ rest
regroup [] g rest = refl
regroup (x ∷ p) g rest = ap (λ y. x ∷ y) (regroup p g rest)

module _ (next : Key → List Value → Reply Key Value) (read : Key → Option Value) (laws : IsNext next) (past : Past read) (cs : List (Choice Key)) (graph : GraphView) (s : RoundView)
    (b : IsBeside graph s) (roots : past.roots ≡ s.roots) (t : IsTrueOf next read past cs graph s.table.nodes s.table.runs.items) where
  abbrev records : Key → Option (Record Key Value)
  records = record_at past.entry

  abbrev W : Key → Type 0
  W k = IsOpenOrSettled graph s.table k

  abbrev S : Key → Type 0
  S k = IsClean (record_at graph) k

  record C (k : Key) (r : Record Key Value) (p rest : List (List Key)) : Type 0 where
    wanted : W k
    no_leaf : read k ≡ None
    recorded : records k ≡ Some r
    is_dirty : r.dirty ≡ true
    split : r.groups ≡ p ++ rest
    passed : AreUnchanged next read past graph r.settled_at p

  -- it makes turns, or its turns settled it
  data R (k : Key) : Type 0 where
    running : {n : Node} → node_at s.table.nodes k ≡ Some n → IsRun next read past cs graph k (groups_of n) → (n.phase ≡ phase.Running) ⊎ (n.phase ≡ phase.Out) → R k
    over : IsRunToEnd next read past cs graph k → S k → R k

  open_unsettled : (k : Key) (n : Node) → node_at s.table.nodes k ≡ Some n → S k → ⊥
  open_unsettled k n e c = unsettled_not_clean (record_at graph k) c.0 (b.whole.holds k n e).0 c.1 c.2

  -- a node that waits has its group, a member of which keeps it back
  waits : (k : Key) (n : Node) → node_at s.table.nodes k ≡ Some n → n.phase ≢ phase.Out → In k s.table.ready.keys ⊎ IsBlocked (record_at graph) s.table.nodes k n
  waits k n e o = elim (b.whole.blocked k n e o) [
    | inl i ↦ elim (subst (In k) b.none_pending i) [ ]
    | inr (inl i) ↦ inl i
    | inr (inr x) ↦ inr x
  ]

  not_checking_ready : (k : Key) (n : Node) (at : ℕ) → node_at s.table.nodes k ≡ Some n → n.phase ≡ phase.Checking at → In k s.table.ready.keys → ⊥
  not_checking_ready k n at e p i = let y = b.whole.ready_now k i in no (sym p ∙ ap (λ (x : Node). x.phase) (some_is (sym e ∙ y.1)) ∙ y.2)
    where
      no : phase.Checking at ≡ phase.Running → ⊥
      no h = cc

  -- how far the check of a record came, which was dirty at the entry
  data CameTo (k : Key) (r : Record Key Value) : Type 0 where
    under_way : (p : List (List Key)) (group : List Key) (rest : List (List Key)) → r.groups ≡ p ++ group ∷ rest → AreUnchanged next read past graph r.settled_at p
        → ((j : Key) → In j group → W j) → (member : Key) → In member group → (S member → ⊥) → (S k → ⊥) → CameTo k r
    to_the_end : AreUnchanged next read past graph r.settled_at r.groups → S k → CameTo k r
    stopped : R k → HasStopped next read past graph r → CameTo k r

  stop_of : (k : Key) (r : Record Key Value) → records k ≡ Some r → HasBegun next read past graph k → HasStopped next read past graph r
  stop_of k r e (inl h) = absurd (none_some (sym h ∙ e))
  stop_of k r e (inr h) = let same : h.0 ≡ r = some_is (sym h.1 ∙ e) in subst (HasStopped next read past graph) same h.3

  came_open : (k : Key) (r : Record Key Value) (n : Node) → node_at s.table.nodes k ≡ Some n → records k ≡ Some r → CameTo k r
  came_open k r n e f = go n.phase refl (t.opened k n e).doing
    where
      blocked_member : (at : ℕ) → n.phase ≡ phase.Checking at → (x : IsBlocked (record_at graph) s.table.nodes k n) → KeepsBack (record_at graph) s.table.nodes k n.phase x.member → S x.member → ⊥
      blocked_member at p x (inl m) c = open_unsettled x.member m.0 m.1 c
      blocked_member at p x (inr m) c = no (sym p ∙ m.0)
        where
          no : phase.Checking at ≡ phase.Running → ⊥
          no h = cc

      under : (at : ℕ) → n.phase ≡ phase.Checking at → IsCheck next read past cs graph k at → IsBlocked (record_at graph) s.table.nodes k n → CameTo k r
      under at p c x =
          let cur = subst (λ (y : Phase). IsCurrent (record_at graph) k (groups_of n) y x.group) p x.current in
          let of_entry : c.of_entry ≡ r = some_is (sym c.recorded ∙ f) in
          let of_graph : cur.0 ≡ r = some_is (sym cur.2 ∙ ((t.opened k n e).same ∙ f)) in
          let split : r.groups ≡ take at r.groups ++ x.group ∷ cur.1 = subst (λ (y : Record Key Value). y.groups ≡ take at y.groups ++ x.group ∷ cur.1) of_graph cur.3 in
          under_way (take at r.groups) x.group cur.1 split (subst (λ (y : Record Key Value). AreUnchanged next read past graph y.settled_at (take at y.groups)) of_entry c.unchanged)
          x.wanted x.member x.among (λ c2. blocked_member at p x x.keeps_back c2) (λ c2. open_unsettled k n e c2)

      apart : (at : ℕ) → n.phase ≡ phase.Checking at → n.phase ≢ phase.Out
      apart at p q = cc

      go : (p : Phase) → n.phase ≡ p → IsDoing next read past cs graph k (groups_of n) p → CameTo k r
      go (phase.Checking at) p c = elim (waits k n e (apart at p)) [ inl i ↦ absurd (not_checking_ready k n at e p i) | inr x ↦ under at p c x ]
      go phase.Running p d = stopped (running e d (inl p)) (stop_of k r f d.begun)
      go phase.Out p d = stopped (running e d (inr p)) (stop_of k r f d.begun)

  came_settled : (k : Key) (r : Record Key Value) → records k ≡ Some r → r.dirty ≡ true → read k ≡ None → S k → CameTo k r
  came_settled k r e d n c = elim (t.after.since k) [
    | inl same ↦ let is : c.0 ≡ r = some_is (sym c.1 ∙ (same ∙ e)) in absurd (true_false d (ap (λ (x : Record Key Value). x.dirty) (sym is) ∙ c.2))
    | inr x ↦ go (t.settled k x.4 c).how
  ]
    where
      go : HasEnded next read past cs graph k → CameTo k r
      go (by_read {v = v} l h) = absurd (none_some (sym n ∙ l))
      go (by_check {r = q} l f u h) = let is : q ≡ r = some_is (sym f ∙ e) in to_the_end (subst (λ (y : Record Key Value). AreUnchanged next read past graph y.settled_at y.groups) is u) c
      go (by_turns x) = stopped (over x c) (stop_of k r e x.begun)

  came : (k : Key) (r : Record Key Value) (p rest : List (List Key)) → C k r p rest → CameTo k r
  came k r p rest h = go h.wanted
    where
      go : W k → CameTo k r
      go (inl o) = came_open k r o.0 o.1 h.recorded
      go (inr c) = came_settled k r h.recorded h.is_dirty h.no_leaf c

  not_changed : {u : ℕ} {p : List (List Key)} {g : List Key} {j : Key} → AreUnchanged next read past graph u p → In g p → In j g → Changed next cycle read records u j → ⊥
  not_changed {g = g} {j = j} a m n d = never_both next cycle read turned records d (a j (g, m, n)).1

  check_wants : (k : Key) (r : Record Key Value) (p rest : List (List Key)) (g : List Key) → C k r p (g ∷ rest) → (i : Key) → In i g → W i
  check_wants k r p rest g h i m = go (came k r p (g ∷ rest) h)
    where
      go : CameTo k r → W i
      go (under_way p' g' rest' e a w j n lacks ns) = elim (two_splits p p' rest rest' (sym h.split ∙ e)) [
        | inl o ↦ w i (subst (λ (y : List Key). In i y) o.1 m)
        | inr o ↦ elim o [ inl x ↦ inr (a i (g, x, m)).0 | inr x ↦ absurd (lacks (h.passed j (g', x, n)).0) ]
      ]
      go (to_the_end a c) = inr (a i (g, subst (λ (y : List (List Key)). In g y) (sym h.split) (in_middle p rest), m)).0
      go (stopped x z) = elim (two_splits p z.passed rest z.rest (sym h.split ∙ z.split)) [
        | inl o ↦ inr (z.settled i (subst (λ (y : List Key). In i y) o.1 m))
        | inr o ↦ elim o [ inl y ↦ inr (z.unchanged i (g, y, m)).0 | inr y ↦ absurd (not_changed h.passed y z.among z.changed) ]
      ]

  check_settled : (k : Key) (r : Record Key Value) (p : List (List Key)) → C k r p [] → S k
  check_settled k r p h = go (came k r p [] h)
    where
      whole : r.groups ≡ p
      whole = h.split ∙ append-nil p

      go : CameTo k r → S k
      go (under_way p' g' rest' e a w j n lacks ns) = absurd (lacks (h.passed j (g', subst (λ (y : List (List Key)). In g' y) (sym e ∙ whole) (in_middle p' rest'), n)).0)
      go (to_the_end a c) = c
      go (stopped x z) = absurd (not_changed h.passed (subst (λ (y : List (List Key)). In z.group y) (sym z.split ∙ whole) (in_middle z.passed z.rest)) z.among z.changed)

  changed_runs : (k j : Key) (r : Record Key Value) (p rest : List (List Key)) (g : List Key) → C k r p (g ∷ rest) → ((i : Key) → In i g → S i) → In j g → Changed next cycle read records r.settled_at j → R k
  changed_runs k j r p rest g h all m d = go (came k r p (g ∷ rest) h)
    where
      go : CameTo k r → R k
      go (under_way p' g' rest' e a w i n lacks ns) = elim (two_splits p p' rest rest' (sym h.split ∙ e)) [
        | inl o ↦ absurd (lacks (all i (subst (λ (y : List Key). In i y) (sym o.1) n)))
        | inr o ↦ elim o [ inl x ↦ absurd (not_changed a x m d) | inr x ↦ absurd (lacks (h.passed i (g', x, n)).0) ]
      ]
      go (to_the_end a c) = absurd (not_changed a (subst (λ (y : List (List Key)). In g y) (sym h.split) (in_middle p rest)) m d)
      go (stopped x z) = x

  new_runs : (k : Key) → W k → read k ≡ None → records k ≡ None → R k
  new_runs k (inl o) n e = go o.0.phase refl (t.opened k o.0 o.1).doing
    where
      go : (p : Phase) → o.0.phase ≡ p → IsDoing next read past cs graph k (groups_of o.0) p → R k
      go (phase.Checking at) p c = absurd (none_some (sym e ∙ c.recorded))
      go phase.Running p d = running o.1 d (inl p)
      go phase.Out p d = running o.1 d (inr p)
  new_runs k (inr c) n e = elim (t.after.since k) [
    | inl same ↦ absurd (none_some (sym e ∙ (sym same ∙ c.1)))
    | inr x ↦ go (t.settled k x.4 c).how
  ]
    where
      go : HasEnded next read past cs graph k → R k
      go (by_read l h) = absurd (none_some (sym n ∙ l))
      go (by_check l f u h) = absurd (none_some (sym e ∙ f))
      go (by_turns x) = over x c

  leaf_settled : (k : Key) (v : Value) → W k → read k ≡ Some v → S k
  leaf_settled k v (inl o) e = absurd (none_some (sym (t.opened k o.0 o.1).no_leaf ∙ e))
  leaf_settled k v (inr c) e = c

  clean_settled : (k : Key) (r : Record Key Value) → W k → records k ≡ Some r → r.dirty ≡ false → S k
  clean_settled k r (inl o) e d = (r, (t.opened k o.0 o.1).same ∙ e, d)
  clean_settled k r (inr c) e d = c

  -- the group that a running node's turns asked last, and the answers before it
  asked_wants : (k : Key) (n : Node) → node_at s.table.nodes k ≡ Some n → (n.phase ≡ phase.Running) ⊎ (n.phase ≡ phase.Out) → (g : List Key) → In g (groups_of n) → (j : Key) → In j g → W j
  asked_wants k n e (inr p) g m j i = let q = subst (λ (y : Phase). Stands (record_at graph) k (groups_of n) y) p (b.whole.holds k n e).1 j (g, m, i) in inr (q.0, q.1, q.2)
  asked_wants k n e (inl p) g m j i = elim (waits k n e (λ o. no (sym p ∙ o))) [
    | inl ready ↦ let y = b.whole.ready_now k ready in let same : y.0 ≡ n = some_is (sym y.1 ∙ e) in
        let q = y.3 j (g, subst (λ (z : Node). In g (groups_of z)) (sym same) m, i) in inr (q.0, q.1, q.2)
    | inr x ↦ of_blocked x (subst (λ (y : Phase). IsCurrent (record_at graph) k (groups_of n) y x.group) p x.current) (subst (λ (y : Phase). Stands (record_at graph) k (groups_of n) y) p (b.whole.holds k n e).1)
  ]
    where
      no : phase.Running ≡ phase.Out → ⊥
      no h = cc

      of_blocked : (x : IsBlocked (record_at graph) s.table.nodes k n) → (passed : List (List Key)) × (groups_of n ≡ passed ++ x.group ∷ []) → Stands (record_at graph) k (groups_of n) phase.Running → W j
      of_blocked x c (inl z) = elim (subst (λ (y : List (List Key)). In g y) z m) [ ]
      of_blocked x c (inr z) = elim (snoc_in z.0 (subst (λ (y : List (List Key)). In g y) z.2 m)) [
        | inl a ↦ let q = z.3 j (g, a, i) in inr (q.0, q.1, q.2)
        | inr q ↦ elim (snoc_in c.0 (subst (λ (y : List (List Key)). In g y) c.1 m)) [
          | inl a ↦ inr (before_last x c z a)
          | inr h ↦ x.wanted j (subst (λ (y : List Key). In j y) h i)
        ]
      ]
        where
          before_last : (x : IsBlocked (record_at graph) s.table.nodes k n) (c : (passed : List (List Key)) × (groups_of n ≡ passed ++ x.group ∷ []))
              (z : (passed : List (List Key)) × (group : List Key) × (groups_of n ≡ passed ++ group ∷ []) × ((i : Key) → IsMember i passed → IsPlain (record_at graph) i)) → In g c.0 → S j
          before_last x c z a = let same = same_init c.0 z.0 x.group z.1 (sym c.1 ∙ z.2) in let q = z.3 j (g, subst (λ (y : List (List Key)). In g y) same a, i) in (q.0, q.1, q.2)
            where
              same_init : (xs ys : List (List Key)) (u v : List Key) → xs ++ u ∷ [] ≡ ys ++ v ∷ [] → xs ≡ ys
              same_init [] [] u v f = refl
              same_init [] (w ∷ []) u v f = cc
              same_init [] (w ∷ y ∷ ys) u v f = cc
              same_init (w ∷ []) [] u v f = cc
              same_init (w ∷ y ∷ xs) [] u v f = cc
              same_init (w ∷ xs) (y ∷ ys) u v f = let h : w ≡ y = cc in let r : xs ++ u ∷ [] ≡ ys ++ v ∷ [] = cc in let i = same_init xs ys u v r in cc

  turn_wants : (j : Key) (p : List (List Key)) (a : List Value) (g : List Key) → R j → Comes next cycle read j [] p a → Backs j (suc (length p)) cs → next j a ≡ Ask g → (k : Key) → In k g → W k
  turn_wants j p a g (running {n = n} there d ph) h bs e k m = go (last_or (groups_of n))
    where
      l : suc (length p) ≤ length (groups_of n)
      l = at_most j (suc (length p)) d.taken bs

      go : (groups_of n ≡ []) ⊎ ((ys : List (List Key)) × (y : List Key) × (groups_of n ≡ ys ++ y ∷ [])) → W k
      go (inl z) = let x : length (groups_of n) ≡ 0 = ap (λ (gs : List (List Key)). length gs) z in absurd (omega (arith, x, l))
      go (inr z) =
          let x = asks_last next read laws past cs d.asks z.0 z.1 z.2 in
          let n_is : length (groups_of n) ≡ suc (length z.0) = ap (λ (gs : List (List Key)). length gs) z.2 ∙ length_snoc z.0 z.1 in
          elim (below (length p) (length z.0) (subst (λ (i : ℕ). suc (length p) ≤ i) n_is l)) [
            | inl f ↦ asked_wants j n there ph g (subst (λ (gs : List (List Key)). In g gs) (sym z.2) (in_left (z.1 ∷ []) (along next cycle read h x.1 refl e f))) k m
            | inr f ↦
                let i : a ≡ x.0 = same_end next cycle read h x.1 refl f in
                let asked = x.2 in
                let o : g ≡ z.1 = cc in
                asked_wants j n there ph z.1 (subst (λ (gs : List (List Key)). In z.1 gs) (sym z.2) (in_right z.0 first)) k (subst (λ (y : List Key). In k y) o m)
          ]
  turn_wants j p a g (over x c) h bs e k m = elim (below (length p) (length x.groups) (at_most j (suc (length p)) x.taken bs)) [
    | inl f ↦ inr (x.members k (g, along next cycle read h x.comes refl e f, m))
    | inr f ↦ let i : a ≡ x.answers = same_end next cycle read h x.comes refl f in let d = x.ends in cc
  ]

  end_settled : (k : Key) (p : List (List Key)) (a : List Value) (v : Value) → R k → Comes next cycle read k [] p a → Backs k (suc (length p)) cs → next k a ≡ Done v → S k
  end_settled k p a v (running {n = n} there d ph) h bs e = go (last_or (groups_of n))
    where
      l : suc (length p) ≤ length (groups_of n)
      l = at_most k (suc (length p)) d.taken bs

      go : (groups_of n ≡ []) ⊎ ((ys : List (List Key)) × (y : List Key) × (groups_of n ≡ ys ++ y ∷ [])) → S k
      go (inl z) = let x : length (groups_of n) ≡ 0 = ap (λ (gs : List (List Key)). length gs) z in absurd (omega (arith, x, l))
      go (inr z) =
          let x = asks_last next read laws past cs d.asks z.0 z.1 z.2 in
          let n_is : length (groups_of n) ≡ suc (length z.0) = ap (λ (gs : List (List Key)). length gs) z.2 ∙ length_snoc z.0 z.1 in
          elim (below (length p) (length z.0) (subst (λ (i : ℕ). suc (length p) ≤ i) n_is l)) [
            | inl f ↦ absurd (not_past next cycle read h x.1 refl e f)
            | inr f ↦ let i : a ≡ x.0 = same_end next cycle read h x.1 refl f in let asked = x.2 in cc
          ]
  end_settled k p a v (over x c) h bs e = c

  -- the state keeps the rules by which a round continues without a choice
  keeping : Keeping next cycle read records past.roots cs W C R S
  keeping = record {
    roots_wanted = λ k m. b.wanted k (subst (In k) roots m);
    check_wants = λ j r p rest g h k m. check_wants j r p rest g h k m;
    turn_wants = λ j p a g r h bs e k m. turn_wants j p a g r h bs e k m;
    check_begins = λ k r w n e d. record { wanted = w; no_leaf = n; recorded = e; is_dirty = d; split = refl; passed = λ j m. elim m.1 [ ] };
    check_passes = λ k r p rest g h settled u. record {
      wanted = h.wanted;
      no_leaf = h.no_leaf;
      recorded = h.recorded;
      is_dirty = h.is_dirty;
      split = h.split ∙ regroup p g rest;
      passed = λ j m. elim (snoc_in p m.1) [ inl n ↦ h.passed j (m.0, n, m.2) | inr o ↦ let i = subst (λ (y : List Key). In j y) o m.2 in (settled j i, u j i) ];
    };
    new_runs = new_runs;
    changed_runs = λ k j r p rest g h settled m d. changed_runs k j r p rest g h settled m d;
    leaf_settled = leaf_settled;
    clean_settled = clean_settled;
    check_settled = check_settled;
    end_settled = λ k p a v r h bs e. end_settled k p a v r h bs e;
  }

  -- what the choices settle is settled in the graph
  pub settled_clean : (k : Key) → Settled next cycle read records past.roots cs k → S k
  settled_clean k x = least_settled next cycle read records past.roots cs _ _ _ _ keeping x

  -- the members of the groups that turns asked for, which were taken back, are opened
  members_wanted : {k : Key} → Runs next cycle read records past.roots cs k → {a c : List Value} (p : List (List Key)) {q : List (List Key)} → Comes next cycle read k [] p a → Comes next cycle read k a q c → Backs k (length (p ++ q)) cs
      → (j : Key) → IsMember j q → IsWantedBy next read past cs j
  members_wanted r p h stay bs j m = elim m.1 [ ]
  members_wanted {k = k} r {a = a} p h (asks {group = y} {values = vs} {groups = ys} e g u) bs j m = go (λ n. members_wanted r (p ++ y ∷ []) (come_on next cycle read h e g) u (subst (λ (x : List (List Key)). Backs k (length x) cs) (regroup p y ys) bs) j n) m.1 refl m.2
    where
      long : suc (length p) ≤ length (p ++ y ∷ ys)
      long = let x = length-append p (y ∷ ys) in omega (arith, x)

      go : (IsMember j ys → IsWantedBy next read past cs j) → {z : List Key} {zs : List (List Key)} → In z zs → zs ≡ y ∷ ys → In j z → IsWantedBy next read past cs j
      go others {z = z} (first {xs = ws}) f i = let same : z ≡ y = cc in member (by_turn r h (fewer k (length (p ++ y ∷ ys)) (suc (length p)) long bs) e) (subst (λ (x : List Key). In j x) same i)
      go others {z = z} (after {xs = ws} n) f i = let same : ws ≡ ys = cc in others (z, subst (λ (x : List (List Key)). In z x) same n, i)

  -- a key that is ready is one whose next turn can be handed out
  pub ready_can : (k : Key) → In k s.table.ready.keys → CanHand next cycle read records past.roots cs k
  ready_can k i = record {
    runs = does.runs;
    open_still = λ x. open_unsettled k y.0 y.1 (settled_clean k x);
    not_out = subst (λ (p : Phase). TellOut next read past cs k p) y.2 o.out;
    groups = groups_of y.0;
    answers = c.0;
    comes = c.1;
    taken = does.taken.taken;
    no_more = does.taken.no_more;
    settled = λ j m. let p = y.3 j m in settled_by next read laws past cs graph s.table.nodes s.table.runs.items t j (p.0, p.1, p.2) (members_wanted does.runs [] stay c.1 does.taken.taken j m);
  }
    where
      y : (n : Node) × (node_at s.table.nodes k ≡ Some n) × (n.phase ≡ phase.Running) × ((j : Key) → IsMember j (groups_of n) → IsPlain (record_at graph) j)
      y = b.whole.ready_now k i

      o : IsOpenTruly next read past cs graph k y.0
      o = t.opened k y.0 y.1

      does : IsRun next read past cs graph k (groups_of y.0)
      does = subst (λ (p : Phase). IsDoing next read past cs graph k (groups_of y.0) p) y.2 o.doing

      c : (v : List Value) × Comes next cycle read k [] (groups_of y.0) v
      c = asks_comes next read past does.asks (λ j m. let p = y.3 j m in (p.0.value, plain_grounded next read laws past graph t.after j p.0 p.1 p.2 p.3))

  -- and a key whose next turn can be handed out is ready
  pub can_ready : (k : Key) → CanHand next cycle read records past.roots cs k → In k s.table.ready.keys
  can_ready k h = go (least_runs next cycle read records past.roots cs _ _ _ _ keeping h.runs)
    where
      value_of : {g : List Key} {vs : List Value} {j : Key} → AllGrounded next read g vs → In j g → (v : Value) × Grounded next read j v
      value_of value.none i = elim i [ ]
      value_of {g = g} {j = j} (value.one {k = x} {v = v} {keys = xs} q w) i = inner (λ n. value_of w n) i refl
        where
          inner : (In j xs → (v : Value) × Grounded next read j v) → {zs : List Key} → In j zs → zs ≡ x ∷ xs → (v : Value) × Grounded next read j v
          inner others (first {xs = ws}) f = let same : x ≡ j = cc in (v, subst (λ y. Grounded next read y v) same q)
          inner others (after {xs = ws} n) f = let same : ws ≡ xs = cc in others (subst (λ (y : List Key). In j y) same n)

      held : (n : Node) (x : IsBlocked (record_at graph) s.table.nodes k n) → S x.member → (vs : List Value) → AllGrounded next read x.group vs → KeepsBack (record_at graph) s.table.nodes k n.phase x.member → ⊥
      held n x c vs g (inl z) = open_unsettled x.member z.0 z.1 c
      held n x c vs g (inr z) = let v = value_of g x.among in cycle_ungrounded next read laws past graph t.after x.member z.1.0 z.1.1 z.1.2 z.1.3 v.0 v.1

      stuck : (n : Node) → node_at s.table.nodes k ≡ Some n → IsRun next read past cs graph k (groups_of n) → n.phase ≡ phase.Running → IsBlocked (record_at graph) s.table.nodes k n → ⊥
      stuck n e d p x =
          let cur = subst (λ (y : Phase). IsCurrent (record_at graph) k (groups_of n) y x.group) p x.current in
          let a = asks_last next read laws past cs d.asks cur.0 x.group cur.1 in
          let l : length (groups_of n) ≡ suc (length cur.0) = ap (λ (gs : List (List Key)). length gs) cur.1 ∙ length_snoc cur.0 x.group in
          let m : suc (length cur.0) ≤ length h.groups = subst (λ (i : ℕ). i ≤ length h.groups) l (at_most k (length (groups_of n)) (record { taken = h.taken; no_more = h.no_more }) d.taken.taken) in
          let i = along next cycle read a.1 h.comes refl a.2 m in
          let settled : S x.member = settled_clean x.member (h.settled x.member (x.group, i, x.among)) in
          let g = come_grounded next cycle read h.comes i in
          held n x settled g.0 g.1 x.keeps_back

      wanted_check : {r : Record Key Value} {p q : List (List Key)} → choices.Checks next cycle read records past.roots cs k r p q → IsWantedBy next read past cs k
      wanted_check (choices.begins w n e d) = w
      wanted_check (choices.passes c z u) = wanted_check c

      wanted_run : Runs next cycle read records past.roots cs k → IsWantedBy next read past cs k
      wanted_run (choices.is_new w n e) = w
      wanted_run (choices.differs c z m d) = wanted_check c

      no : phase.Running ≡ phase.Out → ⊥
      no z = cc

      go : R k → In k s.table.ready.keys
      go (over x c) = absurd (h.open_still (settled_by next read laws past cs graph s.table.nodes s.table.runs.items t k c (wanted_run h.runs)))
      go (running {n = n} e d (inr p)) = absurd (h.not_out (subst (λ (y : Phase). TellOut next read past cs k y) p (t.opened k n e).out))
      go (running {n = n} e d (inl p)) = elim (waits k n e (λ q. no (sym p ∙ q))) [ inl i ↦ i | inr x ↦ absurd (stuck n e d p x) ]

  -- a job is out exactly where the choices say so
  pub out_at : (k : Key) → IsOut k cs → (n : Node) × (node_at s.table.nodes k ≡ Some n) × (n.phase ≡ phase.Out)
  out_at k x = go (node_at s.table.nodes k) refl
    where
      of_phase : (n : Node) (p : Phase) → n.phase ≡ p → TellOut next read past cs k p → n.phase ≡ phase.Out
      of_phase n (phase.Checking at) q f = absurd (f x)
      of_phase n phase.Running q f = absurd (f x)
      of_phase n phase.Out q f = q

      closed : node_at s.table.nodes k ≡ None → ⊥
      closed e = elim (t.after.since k) [
        | inl same ↦ (t.untold k e same).1 x
        | inr z ↦ (t.settled k z.4 (z.0, z.1, z.2)).not_out x
      ]

      go : (o : Option Node) → node_at s.table.nodes k ≡ o → (n : Node) × (node_at s.table.nodes k ≡ Some n) × (n.phase ≡ phase.Out)
      go None e = absurd (closed e)
      go (Some n) e = (n, e, of_phase n n.phase refl (t.opened k n e).out)

  pub at_out : (k : Key) (n : Node) → node_at s.table.nodes k ≡ Some n → n.phase ≡ phase.Out → IsOut k cs
  at_out k n e p = subst (λ (y : Phase). TellOut next read past cs k y) p (t.opened k n e).out

  -- its job is out with these answers, as the choices tell it
  pub job_out : (job : JobView) → IsJobOut next read past cs job → IsOfJobOut graph s job
  job_out job x = go (out_at job.key x.out)
    where
      values : (j : Key) → IsPlain (record_at graph) j → (v : Value) × (plain_value (record_at graph j) ≡ Some v)
      values j p = by_value (plain_value (record_at graph j)) refl
        where
          by_value : (o : Option Value) → plain_value (record_at graph j) ≡ o → (v : Value) × (plain_value (record_at graph j) ≡ Some v)
          by_value None e = absurd (plain_has (record_at graph) j p e)
          by_value (Some v) e = (v, e)

      of_group : (g : List Key) → ((j : Key) → In j g → IsPlain (record_at graph) j) → (vs : List Value) × (map (λ j. plain_value (record_at graph j)) g ≡ map (λ v. Some v) vs)
      of_group [] p = ([], refl)
      of_group (j ∷ g) p = let v = values j (p j first) in let r = of_group g (λ i m. p i (after m)) in (v.0 ∷ r.0, ap (λ o. o ∷ map (λ i. plain_value (record_at graph i)) g) v.1 ∙ ap (λ os. Some v.0 ∷ os) r.1)

      joined : (xs ys : List Value) → map (λ v. Some v) xs ++ map (λ v. Some v) ys ≡ map (λ v. Some v) (xs ++ ys)
      joined [] ys = refl
      joined (x ∷ xs) ys = ap (λ os. Some x ∷ os) (joined xs ys)

      of_groups : (gs : List (List Key)) → ((j : Key) → IsMember j gs → IsPlain (record_at graph) j) → (vs : List Value) × AreAnswers (record_at graph) gs vs
      of_groups [] p = ([], refl)
      of_groups (g ∷ gs) p =
          let v = of_group g (λ j m. p j (g, first, m)) in
          let r = of_groups gs (λ j m. p j (m.0, after m.1, m.2)) in
          (v.0 ++ r.0, ap (λ os. os ++ all_values (record_at graph) gs) v.1 ∙ ap (λ os. map (λ v. Some v) v.0 ++ os) r.1 ∙ joined v.0 r.0)

      go : (n : Node) × (node_at s.table.nodes job.key ≡ Some n) × (n.phase ≡ phase.Out) → IsOfJobOut graph s job
      go y =
          let does = subst (λ (p : Phase). IsDoing next read past cs graph job.key (groups_of y.0) p) y.2 (t.opened job.key y.0 y.1).doing in
          let plain = subst (λ (p : Phase). Stands (record_at graph) job.key (groups_of y.0) p) y.2 (b.whole.holds job.key y.0 y.1).1 in
          let vs = of_groups (groups_of y.0) plain in
          let comes = asks_come next read past (record_at graph) (plain_values next read laws past graph t.after) does.asks vs.0 vs.1 in
          let l = at_most job.key (length (groups_of y.0)) x.taken does.taken.taken in
          let m = at_most job.key (length x.groups) does.taken x.taken.taken in
          let same : vs.0 ≡ job.answers = same_end next cycle read comes x.comes refl (omega (arith, l, m)) in
          record { node = y.0; there = y.1; out = y.2; answered = subst (AreAnswers (record_at graph) (groups_of y.0)) same vs.1 }

  pub out_job : (job : JobView) → IsOfJobOut graph s job → IsJobOut next read past cs job
  out_job job o =
      let does = subst (λ (p : Phase). IsDoing next read past cs graph job.key (groups_of o.node) p) o.out (t.opened job.key o.node o.there).doing in
      record {
        out = at_out job.key o.node o.there o.out;
        groups = groups_of o.node;
        comes = asks_come next read past (record_at graph) (plain_values next read laws past graph t.after) does.asks job.answers o.answered;
        taken = does.taken;
      }
