-- A round follows the choices: the states that it keeps, and the jobs that are out.
use Rattle.std.proofs.Common.{◌≡◌, ◌≢◌, inl, inr, ℕ, true, List, [], ◌∷◌, Option, Some, None, refl, sym, ◌∙◌, ap, subst}
use Rattle.std.specs.Bool.{Decides}
use Rattle.indexmap.specs.IndexMap.{get, Updates}
use Rattle.engine_semantics.specs.Reply.{Reply}
use Rattle.engine_semantics.specs.Value.{In}
use Rattle.engine_semantics.specs.Choices.{Choice, Hand, Back, Drop, Backs, nothing, back, other, IsOut, handed, still, Keeps, taken, kept, Settled, IsStall}
use Rattle.engine_semantics.proofs.Moves.{TellsAlike}
use Rattle.keys.specs.Cycles.{cycle}
use Rattle.keys.specs.Jobs.{Waits}
use Rattle.keys.specs.Keys.{key_eq}
use Rattle.keys.specs.declared.key.Key.{Key}
use Rattle.keys.specs.declared.value.Value.{Value}
use Rattle.node.specs.Edges.{IsAdded, IsRemoved}
use Rattle.node.specs.Graphs.{GraphView, record_at}
use Rattle.node.proofs.Lists.{none_some, decide_key}
use Rattle.round_nodes.proofs.Followings.{grows_one, opened_on, settled_still, untold_on}
use Rattle.round_nodes.proofs.Lookups.{other_key, same_or_key}
use Rattle.round_nodes.proofs.Wholes.{unsettled_not_clean}
use Rattle.round_nodes.specs.Nodes.{Nodes, node_at, IsOpen, IsClean}
use Rattle.round_nodes.specs.Steps.{HasPhase}
use Rattle.round_nodes.specs.Invariants.{IsNext, Past, IsTrueOf}
use Rattle.round_nodes.specs.declared.run.Run.{Run}
use Rattle.round_nodes.specs.declared.table.Node.{Node}
use Rattle.round_nodes.specs.declared.table.Phase.TheVariants as phase
use Rattle.round.specs.Choosing.{Follows, IsPossibleAfter}
use Rattle.round.specs.Frames.{KeepsSettled}
use Rattle.round.specs.Moves.{IsInOrder}
use Rattle.round.specs.NodeStates.{NodeStates, ArePaused, HasState, PutsState, TakesOut}
use Rattle.round.specs.Rounds.{RoundView, IsBeside, IsStalled, CanDrop}
use Rattle.round.proofs.Choosing.{settled_clean, ready_can, can_ready, out_at}
use Rattle.round.proofs.Resting.{root_open}

-- what the choices say of a kept state
keeps_back : {K : Type 0} {k : K} {cs : List (Choice K)} → Keeps k cs → Backs k 1 cs
keeps_back taken = back nothing
keeps_back (kept n d h) = other (keeps_back h)

not_of_hand : {K : Type 0} {k j : K} {cs : List (Choice K)} → Keeps k (Hand j ∷ cs) → Keeps k cs × (j ≢ k)
not_of_hand {k = k} {j = j} {cs = cs} h = go h refl
  where
    go : {c : Choice _} {ds : List (Choice _)} → Keeps k (c ∷ ds) → c ∷ ds ≡ Hand j ∷ cs → Keeps k cs × (j ≢ k)
    go taken e = cc
    go (kept {c = c} {cs = ds} n d x) e = let q : c ≡ Hand j = cc in let r : ds ≡ cs = cc in (subst (Keeps k) r x, λ s. n (q ∙ ap (λ y. Hand y) s))

not_of_drop : {K : Type 0} {k j : K} {cs : List (Choice K)} → Keeps k (Drop j ∷ cs) → Keeps k cs × (j ≢ k)
not_of_drop {k = k} {j = j} {cs = cs} h = go h refl
  where
    go : {c : Choice _} {ds : List (Choice _)} → Keeps k (c ∷ ds) → c ∷ ds ≡ Drop j ∷ cs → Keeps k cs × (j ≢ k)
    go taken e = cc
    go (kept {c = c} {cs = ds} n d x) e = let q : c ≡ Drop j = cc in let r : ds ≡ cs = cc in (subst (Keeps k) r x, λ s. d (q ∙ ap (λ y. Drop y) s))

of_back : {K : Type 0} {k j : K} {cs : List (Choice K)} → Keeps k (Back j ∷ cs) → (j ≢ k) → Keeps k cs
of_back {k = k} {j = j} {cs = cs} h = go h refl
  where
    go : {c : Choice _} {ds : List (Choice _)} → Keeps k (c ∷ ds) → c ∷ ds ≡ Back j ∷ cs → (j ≢ k) → Keeps k cs
    go taken e = λ n. absurd (n (cc))
    go (kept {cs = ds} n d x) e = λ m. let r : ds ≡ cs = cc in subst (Keeps k) r x

out_hand : {K : Type 0} {k j : K} {cs : List (Choice K)} → IsOut k cs → IsOut k (Hand j ∷ cs)
out_hand o = still (λ e. cc) o

out_drop : {K : Type 0} {k j : K} {cs : List (Choice K)} → IsOut k cs → IsOut k (Drop j ∷ cs)
out_drop o = still (λ e. cc) o

-- nothing is kept and nothing is out
pub follows_none : (s : RoundView) (states : NodeStates) → states.entries ≡ [] → s.out ≡ [] → Follows [] s states
follows_none s states e o = record {
  states = λ k h. absurd (none_some (sym (empty k) ∙ h.1));
  all_states = λ k h. elim h [ ];
  out = λ k i. elim (subst (In k) o i) [ ];
}
  where
    empty : (k : Key) → get key_eq states k ≡ None
    empty k = rw e refl

-- a job is handed out
pub follows_hand : (before later : RoundView) (old new : NodeStates) (k : Key) (n : Node) → node_at before.table.nodes k ≡ Some n → HasPhase before.table.nodes later.table.nodes k phase.Out → TakesOut old new k → IsAdded before.out later.out k
    → (cs : List (Choice Key)) → Follows cs before old → Follows (Hand k ∷ cs) later new
follows_hand before later old new k n there h u added cs f = record {
  states = λ j s. elim (decide_key k j) [
    | inl q ↦ absurd (gone j s q)
    | inr d ↦ kept (λ e. absurd (gone j s (cc))) (λ e. cc) (f.states j (s.0, sym (u.1 j d) ∙ s.1))
  ];
  all_states = λ j x o. let y = not_of_hand x in
      let was : IsOpen before.table.nodes j = (o.0, sym (other_key before.table.nodes later.table.nodes k _ (h n there) j y.1) ∙ o.1) in
      let z = f.all_states j y.0 was in
      (z.0, u.1 j y.1 ∙ z.1);
  out = λ j i. elim (added.from j i) [ inl a ↦ out_hand (f.out j a) | inr q ↦ subst (λ x. IsOut x (Hand k ∷ cs)) q handed ];
}
  where
    gone : (j : Key) → HasState new j → k ≡ j → ⊥
    gone j s q = none_some (sym u.0 ∙ ap (get key_eq new) q ∙ s.1)

-- no job was handed out
pub follows_still : (before later : RoundView) (old new : NodeStates) → later ≡ before → ((k : Key) → get key_eq new k ≡ get key_eq old k) → (cs : List (Choice Key)) → Follows cs before old → Follows cs later new
follows_still before later old new e same cs f = record {
  states = λ j s. f.states j (s.0, sym (same j) ∙ s.1);
  all_states = λ j x o. let z = f.all_states j x (o.0, ap (λ (y : RoundView). node_at y.table.nodes j) (sym e) ∙ o.1) in (z.0, same j ∙ z.1);
  out = λ j i. f.out j (subst (λ (y : RoundView). In j y.out) e i);
}

-- a turn comes back
module _ (next : Key → List Value → Reply Key Value) (read : Key → Option Value) (laws : IsNext next) (past : Past read) (cs : List (Choice Key)) (old new : GraphView) (before later : RoundView) (k : Key)
    (settled_stays : KeepsSettled old new) (whole : IsInOrder new later.table) (t : IsTrueOf next read past cs old before.table.nodes before.table.runs.items) where
  clean_closed : (j : Key) → IsClean (record_at new) j → IsOpen later.table.nodes j → ⊥
  clean_closed j c o = unsettled_not_clean (record_at new j) c.0 (whole.holds j o.0 o.1).0 c.1 c.2

  was_open : (j : Key) → Keeps j cs → IsOpen later.table.nodes j → IsOpen before.table.nodes j
  was_open j x o = go (node_at before.table.nodes j) refl
    where
      closed : node_at before.table.nodes j ≡ None → ⊥
      closed e = elim (t.after.since j) [
        | inl same ↦ (t.untold j e same).0.no_more (keeps_back x)
        | inr s ↦ clean_closed j (s.0, settled_stays j s.0 s.1 s.2, s.2) o
      ]

      go : (m : Option Node) → node_at before.table.nodes j ≡ m → IsOpen before.table.nodes j
      go None e = absurd (closed e)
      go (Some m) e = (m, e)

  pub follows_back : (states after : NodeStates) (paused : Option Waits) → PutsState states after k paused → (paused ≡ None → IsClean (record_at new) k) → IsRemoved before.out later.out k → Follows cs before states → Follows (Back k ∷ cs) later after
  follows_back states after paused p ended removed f = record {
    states = λ j s. elim (decide_key k j) [
      | inl q ↦ subst (λ y. Keeps y (Back k ∷ cs)) q taken
      | inr d ↦ kept (λ e. cc) (λ e. cc) (f.states j (s.0, sym (others paused p j d) ∙ s.1))
    ];
    all_states = λ j x o. elim (decide_key k j) [
      | inl q ↦ own paused p ended j q o
      | inr d ↦ let z = f.all_states j (of_back x d) (was_open j (of_back x d) o) in (z.0, others paused p j d ∙ z.1)
    ];
    out = λ j i. still (λ e. removed.gone (subst (λ y. In y later.out) (same_back e) i)) (f.out j (removed.from j i));
  }
    where
      same_back : {x y : Key} → Back x ≡ Back y → y ≡ x
      same_back e = cc

      others : (o : Option Waits) → PutsState states after k o → (j : Key) → k ≢ j → get key_eq after j ≡ get key_eq states j
      others (Some w) u j d = elim (same_or_key states after k (Some w) u j) [ inl q ↦ absurd (d q) | inr e ↦ e ]
      others None e j d = ap (λ m. get key_eq m j) e

      own : (o : Option Waits) → PutsState states after k o → (o ≡ None → IsClean (record_at new) k) → (j : Key) → k ≡ j → IsOpen later.table.nodes j → HasState after j
      own (Some w) u c j q o = (w, ap (get key_eq after) (sym q) ∙ u.1)
      own None e c j q o = absurd (clean_closed j (subst (IsClean (record_at new)) q (c refl)) o)

-- a state is dropped
pub follows_drop : (s : RoundView) (old new : NodeStates) (k : Key) → Updates key_eq old new k None → (cs : List (Choice Key)) → Follows cs s old → Follows (Drop k ∷ cs) s new
follows_drop s old new k u cs f = record {
  states = λ j h. elim (same_or_key old new k None u j) [
    | inl q ↦ absurd (gone j h q)
    | inr p ↦ kept (λ e. cc) (λ e. absurd (gone j h (cc))) (f.states j (h.0, sym p ∙ h.1))
  ];
  all_states = λ j x o. let y = not_of_drop x in let z = f.all_states j y.0 o in elim (same_or_key old new k None u j) [ inl q ↦ absurd (y.1 q) | inr p ↦ (z.0, p ∙ z.1) ];
  out = λ j i. out_drop (f.out j i);
}
  where
    gone : (j : Key) → HasState new j → k ≡ j → ⊥
    gone j h q = none_some (sym u.1 ∙ ap (get key_eq new) q ∙ h.1)

alike_drop : {K : Type 0} (k j : K) (cs : List (Choice K)) → TellsAlike k cs (Drop j ∷ cs)
alike_drop {K} k j cs = record { backs = λ n b. other b; backs_before = λ n b. before b refl; out = λ o. still (λ e. cc) o; out_before = λ o. out_go o refl }
  where
    before : {n : ℕ} {c : Choice K} {ds : List (Choice K)} → Backs k n (c ∷ ds) → c ≡ Drop j → Backs k n ds
    before nothing e = nothing
    before (back b) e = cc
    before (other b) e = b

    out_go : {c : Choice K} {ds : List (Choice K)} → IsOut k (c ∷ ds) → c ≡ Drop j → IsOut k ds
    out_go handed e = cc
    out_go (still n o) e = o

-- what was true of the round is true after a state was dropped
pub true_drop : (next : Key → List Value → Reply Key Value) (read : Key → Option Value) (past : Past read) (cs : List (Choice Key)) (graph : GraphView) (nodes : Nodes) (runs : List Run) (k : Key) → IsTrueOf next read past cs graph nodes runs → IsTrueOf next read past (Drop k ∷ cs) graph nodes runs
true_drop next read past cs graph nodes runs k t = record {
  before = t.before;
  after = t.after;
  opened = λ j n e. opened_on next read past graph graph (λ i c. c) cs (Drop k ∷ cs) (grows_one next read past (Drop k) cs) j (alike_drop j k cs) n refl (t.opened j n e);
  ran = t.ran;
  differ = t.differ;
  told = t.told;
  behind = t.behind;
  grounded = t.grounded;
  settled = λ j u c. settled_still next read past graph graph (λ i h. h) cs (Drop k ∷ cs) (grows_one next read past (Drop k) cs) j (alike_drop j k cs) refl (t.settled j u c);
  untold = λ j e same. untold_on next read past graph graph (λ i h. h) cs (Drop k ∷ cs) (grows_one next read past (Drop k) cs) j (alike_drop j k cs) (t.untold j e same);
}

-- a state can be dropped exactly where the choices allow it
module _ (next : Key → List Value → Reply Key Value) (read : Key → Option Value) (laws : IsNext next) (past : Past read) (cs : List (Choice Key)) (graph : GraphView) (s : RoundView)
    (b : IsBeside graph s) (roots : past.roots ≡ s.roots) (t : IsTrueOf next read past cs graph s.table.nodes s.table.runs.items) where
  pub stalled_is : IsStalled s → IsStall next cycle read (record_at past.entry) past.roots cs
  stalled_is x = (
    λ k h. elim (subst (In k) x.0 (can_ready next read laws past cs graph s b roots t k h)) [ ],
    λ k o. let n = out_at next read laws past cs graph s b roots t k o in elim (subst (In k) x.1 (b.only_out k n.0 n.1 n.2)) [ ],
  )

  none_in : (xs : List Key) → ((k : Key) → In k xs → ⊥) → xs ≡ []
  none_in [] f = refl
  none_in (x ∷ xs) f = absurd (f x In.first)

  pub is_stalled : ((k : Key) → In k s.out → IsOut k cs) → IsStall next cycle read (record_at past.entry) past.roots cs → IsStalled s
  is_stalled out x = (
    none_in s.table.ready.keys (λ k i. x.0 k (ready_can next read laws past cs graph s b roots t k i)),
    none_in s.out (λ k i. x.1 k (out k i)),
  )

  -- where all roots are settled, no turn can be handed out and none is out
  pub settled_stalls : ((k : Key) → In k s.out → IsOut k cs) → ((k : Key) → In k s.roots → IsOpen s.table.nodes k → ⊥) → IsStalled s
  settled_stalls out closed = (
    none_in s.table.ready.keys (λ k i. let n = b.whole.ready_now k i in none_open k (n.0, n.1)),
    none_in s.out (λ k i. let n = out_at next read laws past cs graph s b roots t k (out k i) in none_open k (n.0, n.1)),
  )
    where
      none_open : (k : Key) → IsOpen s.table.nodes k → ⊥
      none_open k o =
          let r = root_open next read laws past cs graph s.table b.whole t k o in
          let i = subst (In r.0) roots r.1 in
          elim (b.wanted r.0 i) [ inl x ↦ closed r.0 i x | inr c ↦ unsettled_not_clean (record_at graph r.0) c.0 r.2 c.1 c.2 ]

  -- where a node is open, the choices leave a root that is not settled
  pub lacks_root : (k : Key) → IsOpen s.table.nodes k → (r : Key) × In r past.roots × (Settled next cycle read (record_at past.entry) past.roots cs r → ⊥)
  lacks_root k o =
      let r = root_open next read laws past cs graph s.table b.whole t k o in
      (r.0, r.1, λ x. let c = settled_clean next read laws past cs graph s b roots t r.0 x in unsettled_not_clean (record_at graph r.0) c.0 r.2 c.1 c.2)

  pub drops_where_possible : (states : NodeStates) (k : Key) (r : _) → ArePaused graph s.table states → Follows cs s states → Decides r (CanDrop s states k) → Decides r (IsPossibleAfter next read past cs (Drop k))
  drops_where_possible states k r paused f d = (to, λ h. d.1 (from h))
    where
      open_of : HasState states k → IsOpen s.table.nodes k
      open_of h = let p = paused k h.0 h.1 in (p.node, p.there)

      to : r ≡ true → IsPossibleAfter next read past cs (Drop k)
      to e = let h = d.0 e in (
        f.states k h.0,
        λ x. let c = settled_clean next read laws past cs graph s b roots t k x in let o = open_of h.0 in unsettled_not_clean (record_at graph k) c.0 (b.whole.holds k o.0 o.1).0 c.1 c.2,
        λ x. h.1 (is_stalled f.out x),
      )

      is_open : Keeps k cs → (Settled next cycle read (record_at past.entry) past.roots cs k → ⊥) → IsOpen s.table.nodes k
      is_open x n = go (node_at s.table.nodes k) refl
        where
          closed : node_at s.table.nodes k ≡ None → ⊥
          closed e = elim (t.after.since k) [
            | inl same ↦ (t.untold k e same).0.no_more (keeps_back x)
            | inr z ↦ n (t.settled k z.4 (z.0, z.1, z.2)).settled
          ]

          go : (m : Option Node) → node_at s.table.nodes k ≡ m → IsOpen s.table.nodes k
          go None e = absurd (closed e)
          go (Some m) e = (m, e)

      from : IsPossibleAfter next read past cs (Drop k) → CanDrop s states k
      from x = (f.all_states k x.0 (is_open x.0 x.1), λ y. x.2 (stalled_is y))
