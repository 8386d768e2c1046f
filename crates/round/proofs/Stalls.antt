-- A stall as it is: each open node waits for a member of a group of its own, and stops at the first that has no value.
use Rattle.std.proofs.Common.{◌≡◌, ◌⊎◌, inl, inr, ℕ, List, [], ◌∷◌, ◌++◌, take, Option, Some, None, refl, sym, ◌∙◌, ap, subst, add-one}
use Rattle.engine_semantics.specs.Value.{In, first, IsMember}
use Rattle.engine_semantics.specs.Graph.{Record}
use Rattle.keys.specs.Turns.{NoCycle}
use Rattle.keys.specs.declared.key.Key.{Key}
use Rattle.keys.specs.declared.value.Value.{Value}
use Rattle.node.specs.Batches.{entry_groups, keys_of, HasReadyEntries, SetsAll}
use Rattle.node.specs.Graphs.{GraphView, record_at}
use Rattle.node.specs.Records.{items_of}
use Rattle.node.specs.declared.entry.Entry.{Entry}
use Rattle.node.proofs.Lists.{some_is, none_some, in_right}
use Rattle.round_nodes.specs.Nodes.{Nodes, Records, node_at, groups_of, IsOpen, IsUnsettled, IsClean, IsPlain, IsStill, Stands, IsCurrent, KeepsBack, IsBlocked}
use Rattle.round_nodes.specs.declared.table.Node.{Node}
use Rattle.round_nodes.specs.declared.table.Phase.{Phase}
use Rattle.round_nodes.specs.declared.table.Phase.TheVariants as phase
use Rattle.round_nodes.specs.declared.table.OpenNodes.{OpenNodes}
use Rattle.round_nodes.proofs.Counting.{decide_in}
use Rattle.round_nodes.proofs.Settlings.{in_map}
use Rattle.round_nodes.proofs.Wholes.{unsettled_not_clean}
use Rattle.round.specs.Closing.{ClosesBy, ClosesWith, Stops, stop_at, closing_keys, IsClosed, HasTaken, IsIdle}
use Rattle.round.specs.Looks.{IsLastGroup}
use Rattle.round_nodes.specs.Members.{IsStop}
use Rattle.round.specs.Moves.{IsInOrder, IsOpenOrSettled, KeepsOpened}
use Rattle.round.specs.Showing.{IsStall, AreEntries}
use Rattle.round.specs.declared.closing.Closing.{Closing}
use Rattle.round.specs.declared.closing.Stall.{Stall}
use Rattle.round_nodes.proofs.Grouping.{snoc_in}
use Rattle.round.proofs.Checking.{next_taken}
use Rattle.round.proofs.Looking.{last_same}

-- the first lists of equal lists that end with one element
init_same : {X : Type 0} (xs ys : List X) (x y : X) → xs ++ x ∷ [] ≡ ys ++ y ∷ [] → xs ≡ ys
init_same [] [] x y e = refl
init_same [] (z ∷ []) x y e = cc
init_same [] (z ∷ w ∷ ys) x y e = cc
init_same (z ∷ []) [] x y e = cc
init_same (z ∷ w ∷ xs) [] x y e = cc
init_same (z ∷ xs) (w ∷ ys) x y e = let q : xs ++ x ∷ [] ≡ ys ++ y ∷ [] = cc in let p : z ≡ w = cc in let r = init_same xs ys x y q in cc

-- how a node came to the group that it waits for
abbrev pub ComesBy : Records → Key → List (List Key) → Phase → List (List Key) → List Key → Type 0
ComesBy records k asked (phase.Checking at) passed group = (r : Record Key Value) × (rest : List (List Key)) × (records k ≡ Some r) × (r.groups ≡ passed ++ group ∷ rest) × ((j : Key) → IsMember j passed → IsStill records r.settled_at j)
ComesBy records k asked phase.Running passed group = asked ≡ passed ++ group ∷ []
ComesBy records k asked phase.Out passed group = ⊥

-- a closed node's groups end with the one that it waits for, whose members before the stop have values
pub record IsStopped (records : Records) (nodes : Nodes) (stops : Stops) (c : Closing) : Type 0 where
  pub node : Node
  pub there : node_at nodes c.key ≡ Some node
  pub group : List Key
  pub current : IsCurrent records c.key (groups_of node) node.phase group
  pub passed : List (List Key)
  pub groups : items_of c.groups.items ≡ passed ++ group ∷ []
  pub come : ComesBy records c.key (groups_of node) node.phase passed group
  pub all_clean : (j : Key) → IsMember j passed → IsClean records j
  pub wanted : (j : Key) → In j group → IsOpen nodes j ⊎ IsClean records j
  pub stop : Key
  pub stops_at : stop_at stops c.key ≡ Some stop
  pub is_stop : IsStop records group (Some stop)

pub stop_among : (records : Records) (group : List Key) (j : Key) → IsStop records group (Some j) → In j group
stop_among records group j s = subst (In j) (sym s.2) (in_right s.0 first)

module _ (graph : GraphView) (start later : OpenNodes) (stall : Stall) (version : ℕ) (w : IsInOrder graph start) (idle : IsIdle start)
    (t : HasTaken (record_at graph) version start later stall) (none : (k : Key) → node_at later.nodes k ≡ None) where
  abbrev records : Records
  records = record_at graph

  blocked : (k : Key) (n : Node) → node_at start.nodes k ≡ Some n → IsBlocked records start.nodes k n
  blocked k n e = elim (w.blocked k n e (λ o. elim (idle.none_out k n e o) [ ])) [
    | inl i ↦ elim (subst (In k) idle.none_pending i) [ ]
    | inr r ↦ elim r [ inl i ↦ elim (subst (In k) idle.none_ready i) [ ] | inr b ↦ b ]
  ]

  -- the member that keeps a node back has no value
  not_plain : (k : Key) (p : Phase) (j : Key) → KeepsBack records start.nodes k p j → IsPlain records j → ⊥
  not_plain k p j (inl m) s = unsettled_not_clean (records j) s.0 (w.holds j m.0 m.1).0 s.1 s.2
  not_plain k p j (inr c) s = c.1.3 (subst (λ (r : Record Key Value). NoCycle r.value) (some_is (sym s.1 ∙ c.1.1)) s.3)

  abbrev Parts : Key → Node → List Key → List (List Key) → Type 0
  Parts k n group gs = (passed : List (List Key)) × (gs ≡ passed ++ group ∷ []) × ((j : Key) → IsMember j passed → IsClean records j) × ComesBy records k (groups_of n) n.phase passed group

  parts : (k : Key) (n : Node) (group : List Key) (gs : List (List Key)) → ClosesWith records k n gs → Stands records k (groups_of n) n.phase → IsCurrent records k (groups_of n) n.phase group → Parts k n group gs
  parts k n group gs by stands current = go n.phase by stands current
    where
      go : (p : Phase) → ClosesBy records k (groups_of n) p gs → Stands records k (groups_of n) p → IsCurrent records k (groups_of n) p group → (passed : List (List Key)) × (gs ≡ passed ++ group ∷ []) × ((j : Key) → IsMember j passed → IsClean records j) × ComesBy records k (groups_of n) p passed group
      go (phase.Checking at) b s c =
          let same : s.0 ≡ c.0 = some_is (sym s.1 ∙ c.2) in
          let still : (j : Key) → IsMember j (take at c.0.groups) → IsStill records c.0.settled_at j = λ j m.
          subst (λ (r : Record Key Value). IsStill records r.settled_at j) same (s.3 j (subst (λ (r : Record Key Value). IsMember j (take at r.groups)) (sym same) m)) in
          (take at c.0.groups, b c.0 c.2 ∙ rw add-one (next_taken at c.0.groups group c.1 c.3), (λ j m. let x = still j m in (x.0, x.1, x.2)), (c.0, c.1, c.2, c.3, still))
      go phase.Running b s c = (
        c.0,
        b ∙ c.1,
        (λ j m. elim s [
          | inl e ↦ absurd (no_end c.0 group (sym c.1 ∙ e))
          | inr q ↦ let h = q.3 j (subst (IsMember j) (init_same c.0 q.0 group q.1 (sym c.1 ∙ q.2)) m) in (h.0, h.1, h.2)
        ]),
        c.1,
      )
        where
          no_end : (xs : List (List Key)) (x : List Key) → xs ++ x ∷ [] ≡ [] → ⊥
          no_end [] x e = cc
          no_end (y ∷ xs) x e = cc
      go phase.Out b s c = absurd c

  pub stopped : (c : Closing) → In c stall.closing.items → IsStopped records start.nodes stall.stops c
  stopped c i = record {
    node = d.node;
    there = d.there;
    group = b.group;
    current = b.current;
    passed = p.0;
    groups = p.1;
    come = p.3;
    all_clean = p.2;
    wanted = b.wanted;
    stop = found.0;
    stops_at = found.1;
    is_stop = found.2;
  }
    where
      d : IsClosed records start.nodes stall.stops c
      d = t.closed c i

      b : IsBlocked records start.nodes c.key d.node
      b = blocked c.key d.node d.there

      p : Parts c.key d.node b.group (items_of c.groups.items)
      p = parts c.key d.node b.group (items_of c.groups.items) d.groups (w.holds c.key d.node d.there).1 b.current

      its_last : (g : List Key) → IsLastGroup (items_of c.groups.items) g → g ≡ b.group
      its_last g (inl e) = absurd (no_end p.0 b.group (sym p.1 ∙ e.0))
        where
          no_end : (xs : List (List Key)) (x : List Key) → xs ++ x ∷ [] ≡ [] → ⊥
          no_end [] x e = cc
          no_end (y ∷ xs) x e = cc
      its_last g (inr e) = last_same e.0 p.0 g b.group (sym e.1 ∙ p.1)

      found : (j : Key) × (stop_at stall.stops c.key ≡ Some j) × IsStop records b.group (Some j)
      found = go (stop_at stall.stops c.key) refl (subst (λ g. IsStop records g (stop_at stall.stops c.key)) (its_last d.stop.0 d.stop.1) d.stop.2)
        where
          go : (o : Option Key) → stop_at stall.stops c.key ≡ o → IsStop records b.group (stop_at stall.stops c.key) → (j : Key) × (stop_at stall.stops c.key ≡ Some j) × IsStop records b.group (Some j)
          go (Some j) e s = (j, e, subst (IsStop records b.group) e s)
          go None e s = absurd (not_plain c.key d.node.phase b.member b.keeps_back (subst (IsStop records b.group) e s b.member b.among))

  -- each open node is closed
  pub all_closed : (k : Key) → IsOpen start.nodes k → (c : Closing) × In c stall.closing.items × (c.key ≡ k)
  all_closed k o = elim (decide_in k (closing_keys stall.closing.items)) [
    | inl i ↦ in_map (λ (x : Closing). x.key) stall.closing.items i
    | inr n ↦ absurd (none_some (sym (none k) ∙ (t.stays k n).0 ∙ o.1))
  ]

  -- what has a stop is closed
  pub has_stop : (k j : Key) → stop_at stall.stops k ≡ Some j → (c : Closing) × In c stall.closing.items × (c.key ≡ k)
  has_stop k j e = elim (decide_in k (closing_keys stall.closing.items)) [
    | inl i ↦ in_map (λ (x : Closing). x.key) stall.closing.items i
    | inr n ↦ absurd (none_some (sym (t.stays k n).1 ∙ e))
  ]

  pub its_stop : (c : Closing) → In c stall.closing.items → (j : Key) × (stop_at stall.stops c.key ≡ Some j)
  its_stop c i = let s = stopped c i in (s.stop, s.stops_at)

  open_stop : (k : Key) → IsOpen start.nodes k → (j : Key) × (stop_at stall.stops k ≡ Some j)
  open_stop k o = let c = all_closed k o in let s = its_stop c.0 c.1 in (s.0, ap (stop_at stall.stops) (sym c.2) ∙ s.1)

  pub is_stall : IsStall (stop_at stall.stops) records
  is_stall k j e =
      let c = has_stop k j e in
      let s = stopped c.0 c.1 in
      let same : s.stop ≡ j = some_is (sym s.stops_at ∙ ap (stop_at stall.stops) c.2 ∙ e) in (
        subst (IsUnsettled records) c.2 (w.holds c.0.key s.node s.there).0,
        elim (s.wanted s.stop (stop_among records s.group s.stop s.is_stop)) [
          | inl o ↦ inl (open_stop j (subst (IsOpen start.nodes) same o))
          | inr l ↦ inr (subst (IsClean records) same l)
        ],
      )

  -- the members of the entries are settled, or among them
  pub entries_ready : (entries : List Entry) → AreEntries (stop_at stall.stops) records stall.closing.items entries → HasReadyEntries records entries
  entries_ready entries a e i j m =
      let x = a.each e i in
      let s = stopped x.0 x.1 in
      let split = snoc_in s.passed (subst (In m.0) (x.3 ∙ s.groups) m.1) in
      elim split [
        | inl p ↦ inr (s.all_clean j (m.0, p, m.2))
        | inr q ↦ elim (s.wanted j (subst (In j) q m.2)) [
          | inl o ↦ let c = all_closed j o in inl (subst (λ k. In k (keys_of entries)) c.2 (a.has c.0 c.1))
          | inr l ↦ inr l
        ]
      ]

  -- what was opened is settled
  pub closed_keeps : (new : GraphView) (entries : List Entry) → AreEntries (stop_at stall.stops) records stall.closing.items entries → SetsAll records (record_at new) entries version → KeepsOpened graph new start later
  closed_keeps new entries a sets j o = elim (decide_in j (keys_of entries)) [
    | inl i ↦ of_entry i
    | inr n ↦ elim o [
      | inl x ↦ let c = all_closed j x in absurd (n (subst (λ k. In k (keys_of entries)) c.2 (a.has c.0 c.1)))
      | inr l ↦ inr (l.0, sets.others j n ∙ l.1, l.2)
    ]
  ]
    where
      of_entry : In j (keys_of entries) → IsOpenOrSettled new later j
      of_entry i = let e = in_map (λ (x : Entry). x.key) entries i in inr (_, ap (record_at new) (sym e.2) ∙ sets.there e.0 e.1, refl)
