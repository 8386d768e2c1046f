-- The open nodes stay as they have to be, where one node changes, where one is settled, and where one is found to be
-- blocked.
use Rattle.std.proofs.Common.{◌≡◌, ◌≢◌, ◌⊎◌, inl, inr, ℕ, true, false, List, [], ◌∷◌, ◌++◌, Option, Some, None, refl, sym, ◌∙◌, ap, subst}
use Rattle.indexmap.specs.IndexMap.{Updates}
use Rattle.std.specs.declared.alloc.Global.{Global}
use Rattle.std.specs.declared.vec.Vec.{Vec}
use Rattle.node.specs.Records.{items_of}
use Rattle.node.specs.Edges.{IsAdded}
use Rattle.engine_semantics.specs.Graph.{Record}
use Rattle.engine_semantics.specs.Value.{In, IsMember, first, after}
use Rattle.keys.specs.Keys.{key_eq}
use Rattle.keys.specs.declared.key.Key.{Key}
use Rattle.keys.specs.declared.value.Value.{Value}
use Rattle.node.specs.Graphs.{present}
use Rattle.node.proofs.Lists.{some_is, none_some, true_false, decide_key}
use Rattle.round_nodes.proofs.Lookups.{other_key}
use Rattle.round_nodes.specs.Nodes.{Nodes, Records, node_at, groups_of, IsOpen, IsUnsettled, IsClean, IsPlain, IsStill, Stands, IsCurrent, KeepsBack, IsBlocked, IsWhole, Widens}
use Rattle.round_nodes.specs.declared.table.Node.{Node}
use Rattle.round_nodes.specs.declared.table.Phase.{Phase}
use Rattle.round_nodes.specs.declared.table.Phase.TheVariants as phase

-- an unsettled key is not clean
pub unsettled_not_clean : (o : Option (Record Key Value)) (s : Record Key Value) → present o ≡ None → o ≡ Some s → s.dirty ≡ false → ⊥
unsettled_not_clean None s u e d = none_some e
unsettled_not_clean (Some r) s u e d = go r.dirty refl
  where
    go : (b : _) → r.dirty ≡ b → ⊥
    go true t = true_false t (ap (λ (x : Record Key Value). x.dirty) (some_is e) ∙ d)
    go false t = none_some (sym u ∙ ap (λ b. present (Some (record r { dirty = b }))) t)

-- one node is set
module _ (records : Records) (nodes later : Nodes) (k : Key) (n : Node) (u : Updates key_eq nodes later k (Some n)) where
  pub open_on : (watchers : (m : Node) (x : Key) → node_at nodes k ≡ Some m → In x m.waiters.items → In x n.waiters.items) (j : Key) → IsOpen nodes j → IsOpen later j
  open_on watchers j o = elim (decide_key k j) [
    | inl q ↦ (n, ap (node_at later) (sym q) ∙ u.1)
    | inr d ↦ (o.0, other_key nodes later k (Some n) u j d ∙ o.1)
  ]

  pub keeps_on : (watchers : (m : Node) (x : Key) → node_at nodes k ≡ Some m → In x m.waiters.items → In x n.waiters.items)
      (i : Key) (at : Phase) (j : Key) → KeepsBack records nodes i at j → KeepsBack records later i at j
  keeps_on watchers i at j (inl w) = elim (decide_key k j) [
    | inl q ↦ inl (n, ap (node_at later) (sym q) ∙ u.1, watchers w.0 i (ap (node_at nodes) q ∙ w.1) w.2)
    | inr d ↦ inl (w.0, other_key nodes later k (Some n) u j d ∙ w.1, w.2)
  ]
  keeps_on watchers i at j (inr c) = inr c

  pub node_changes : (ready ready_after waiting waiting_after : List Key) → IsWhole records nodes ready waiting
      → IsUnsettled records k → Stands records k (groups_of n) n.phase
      → ((m : Node) (x : Key) → node_at nodes k ≡ Some m → In x m.waiters.items → In x n.waiters.items)
      → ((j : Key) → In j ready_after → ((k ≢ j) × In j ready) ⊎ ((k ≡ j) × (n.phase ≡ phase.Running) × ((i : Key) → IsMember i (groups_of n) → IsPlain records i)))
      → ((j : Key) → k ≢ j → In j ready → In j ready_after)
      → ((j : Key) → k ≢ j → In j waiting → In j waiting_after)
      → (n.phase ≢ phase.Out → In k waiting_after ⊎ (In k ready_after ⊎ IsBlocked records later k n))
      → IsWhole records later ready_after waiting_after
  node_changes ready ready_after waiting waiting_after w unsettled stands watchers still stay waits own = record {
    holds = λ j m e. elim (decide_key k j) [
      | inl q ↦ let same : n ≡ m = some_is (sym u.1 ∙ ap (node_at later) q ∙ e) in
          (subst (IsUnsettled records) q unsettled, subst (λ (y : Key). Stands records y (groups_of m) m.phase) q (subst (λ (y : Node). Stands records k (groups_of y) y.phase) same stands))
      | inr d ↦ w.holds j m (sym (other_key nodes later k (Some n) u j d) ∙ e)
    ];
    ready_now = λ j i. elim (still j i) [
      | inl s ↦ let r = w.ready_now j s.1 in (r.0, other_key nodes later k (Some n) u j s.0 ∙ r.1, r.2, r.3)
      | inr s ↦ (n, ap (node_at later) (sym s.0) ∙ u.1, s.1, s.2)
    ];
    blocked = λ j m e o. elim (decide_key k j) [
      | inl q ↦ let same : n ≡ m = some_is (sym u.1 ∙ ap (node_at later) q ∙ e) in
          subst (λ (y : Key). In y waiting_after ⊎ (In y ready_after ⊎ IsBlocked records later y m)) q
          (subst (λ (y : Node). y.phase ≢ phase.Out → In k waiting_after ⊎ (In k ready_after ⊎ IsBlocked records later k y)) same own o)
      | inr d ↦ elim (w.blocked j m (sym (other_key nodes later k (Some n) u j d) ∙ e) o) [
        | inl i ↦ inl (waits j d i)
        | inr (inl i) ↦ inr (inl (stay j d i))
        | inr (inr b) ↦ inr (inr (record {
          group = b.group;
          current = b.current;
          wanted = λ i x. elim (b.wanted i x) [ inl z ↦ inl (open_on watchers i z) | inr z ↦ inr z ];
          member = b.member;
          among = b.among;
          keeps_back = keeps_on watchers j m.phase b.member b.keeps_back;
        }))
      ]
    ];
  }

-- a key that was to be visited needs it no more
pub looked_at : (records : Records) (nodes : Nodes) (ready waiting : List Key) (k : Key) → IsWhole records nodes ready (k ∷ waiting)
    → ((n : Node) → node_at nodes k ≡ Some n → n.phase ≢ phase.Out → In k waiting ⊎ (In k ready ⊎ IsBlocked records nodes k n))
    → IsWhole records nodes ready waiting
looked_at records nodes ready waiting k w own = record {
  holds = w.holds;
  ready_now = w.ready_now;
  blocked = λ j m e o. go j m e o (w.blocked j m e o);
}
  where
    head : {j : Key} {xs : List Key} → In j xs → xs ≡ k ∷ waiting → (k ≡ j) ⊎ In j waiting
    head {j = j} (first {xs = ys}) e = let q : k ≡ j = cc in inl q
    head {j = j} (after {xs = ys} i) e = let q : ys ≡ waiting = cc in inr (subst (In j) q i)

    go : (j : Key) (m : Node) → node_at nodes j ≡ Some m → m.phase ≢ phase.Out → In j (k ∷ waiting) ⊎ (In j ready ⊎ IsBlocked records nodes j m) → In j waiting ⊎ (In j ready ⊎ IsBlocked records nodes j m)
    go j m e o (inr r) = inr r
    go j m e o (inl i) = elim (head i refl) [
      | inl q ↦ subst (λ (y : Key). In y waiting ⊎ (In y ready ⊎ IsBlocked records nodes y m)) q (own m (ap (node_at nodes) q ∙ e) o)
      | inr x ↦ inl x
    ]

-- more may be visited
pub more_waiting : (records : Records) (nodes : Nodes) (ready waiting more : List Key) → IsWhole records nodes ready waiting → ((j : Key) → In j waiting → In j more) → IsWhole records nodes ready more
more_waiting records nodes ready waiting more w f = record {
  holds = w.holds;
  ready_now = w.ready_now;
  blocked = λ j m e o. elim (w.blocked j m e o) [ inl i ↦ inl (f j i) | inr r ↦ inr r ];
}

-- what is settled stays so
module _ (records later : Records) (keeps : (j : Key) (s : Record Key Value) → records j ≡ Some s → s.dirty ≡ false → later j ≡ Some s) where
  pub plain_on : (j : Key) → IsPlain records j → IsPlain later j
  plain_on j p = (p.0, keeps j p.0 p.1 p.2, p.2, p.3)

  pub clean_on : (j : Key) → IsClean records j → IsClean later j
  clean_on j p = (p.0, keeps j p.0 p.1 p.2, p.2)

  pub still_on : (at : ℕ) (j : Key) → IsStill records at j → IsStill later at j
  still_on at j p = (p.0, keeps j p.0 p.1 p.2, p.2, p.3)

  pub stands_on : (k : Key) (groups : List (List Key)) (p : Phase) → later k ≡ records k → Stands records k groups p → Stands later k groups p
  stands_on k groups (phase.Checking at) e s = (s.0, e ∙ s.1, s.2, λ j m. still_on s.0.settled_at j (s.3 j m))
  stands_on k groups phase.Running e (inl s) = inl s
  stands_on k groups phase.Running e (inr s) = inr (s.0, s.1, s.2, λ j m. plain_on j (s.3 j m))
  stands_on k groups phase.Out e s = λ j m. plain_on j (s j m)

  pub current_on : (k : Key) (groups : List (List Key)) (p : Phase) (group : List Key) → later k ≡ records k → IsCurrent records k groups p group → IsCurrent later k groups p group
  current_on k groups (phase.Checking at) group e s = (s.0, s.1, e ∙ s.2, s.3)
  current_on k groups phase.Running group e s = s
  current_on k groups phase.Out group e s = s

-- one key is settled, and leaves the open nodes
module _ (records later : Records) (nodes left : Nodes) (k : Key) (s : Record Key Value)
    (there : later k ≡ Some s) (is_clean : s.dirty ≡ false) (others : (j : Key) → k ≢ j → later j ≡ records j)
    (was : IsUnsettled records k)
    (gone : node_at left k ≡ None) (others_stay : (j : Key) → k ≢ j → node_at left j ≡ node_at nodes j) where
  pub keeps_clean : (j : Key) (r : Record Key Value) → records j ≡ Some r → r.dirty ≡ false → later j ≡ Some r
  keeps_clean j r e d = elim (decide_key k j) [
    | inl q ↦ absurd (unsettled_not_clean (records j) r (subst (IsUnsettled records) q was) e d)
    | inr n ↦ others j n ∙ e
  ]

  apart : (j : Key) (m : Node) → node_at left j ≡ Some m → k ≢ j
  apart j m e q = none_some (sym gone ∙ ap (node_at left) q ∙ e)

  open_or_clean : (j : Key) → IsOpen nodes j ⊎ IsClean records j → IsOpen left j ⊎ IsClean later j
  open_or_clean j (inr c) = inr (clean_on records later keeps_clean j c)
  open_or_clean j (inl o) = elim (decide_key k j) [
    | inl q ↦ inr (s, ap later (sym q) ∙ there, is_clean)
    | inr n ↦ inl (o.0, others_stay j n ∙ o.1)
  ]

  pub node_settles : (ready waiting waiting_after : List Key) → IsWhole records nodes ready waiting
      → (In k ready → ⊥)
      → ((j : Key) → k ≢ j → In j waiting → In j waiting_after)
      → ((m : Node) (x : Key) → node_at nodes k ≡ Some m → In x m.waiters.items → In x waiting_after)
      → IsWhole later left ready waiting_after
  node_settles ready waiting waiting_after w not_ready waits watchers = record {
    holds = λ j m e. let n = apart j m e in let h = w.holds j m (sym (others_stay j n) ∙ e) in
        (ap present (others j n) ∙ h.0, stands_on records later keeps_clean j (groups_of m) m.phase (others j n) h.1);
    ready_now = λ j i. elim (decide_key k j) [
      | inl q ↦ absurd (not_ready (subst (λ (y : Key). In y ready) (sym q) i))
      | inr n ↦ let r = w.ready_now j i in (r.0, others_stay j n ∙ r.1, r.2, λ x m. plain_on records later keeps_clean x (r.3 x m))
    ];
    blocked = λ j m e o. let n = apart j m e in elim (w.blocked j m (sym (others_stay j n) ∙ e) o) [
      | inl i ↦ inl (waits j n i)
      | inr (inl i) ↦ inr (inl i)
      | inr (inr b) ↦ held j m n b b.keeps_back
    ];
  }
    where
      held : (j : Key) (m : Node) → k ≢ j → (b : IsBlocked records nodes j m) → KeepsBack records nodes j m.phase b.member → In j waiting_after ⊎ (In j ready ⊎ IsBlocked later left j m)
      held j m n b (inr c) = inr (inr (record {
        group = b.group;
        current = current_on records later keeps_clean j (groups_of m) m.phase b.group (others j n) b.current;
        wanted = λ i x. open_or_clean i (b.wanted i x);
        member = b.member;
        among = b.among;
        keeps_back = inr (c.0, (c.1.0, keeps_clean b.member c.1.0 c.1.1 c.1.2, c.1.2, c.1.3));
      }))
      held j m n b (inl x) = elim (decide_key k b.member) [
        | inl q ↦ inl (watchers x.0 j (ap (node_at nodes) q ∙ x.1) x.2)
        | inr d ↦ inr (inr (record {
          group = b.group;
          current = current_on records later keeps_clean j (groups_of m) m.phase b.group (others j n) b.current;
          wanted = λ i y. open_or_clean i (b.wanted i y);
          member = b.member;
          among = b.among;
          keeps_back = inl (x.0, others_stay b.member d ∙ x.1, x.2);
        }))
      ]

pub widens_on : (a b c : Records) (x y z : Nodes) → Widens a b x y → Widens b c y z → Widens a c x z
widens_on a b c x y z f g = record {
  clean = λ j s e d. g.clean j s (f.clean j s e d) d;
  open_still = λ j m e. g.open_still j m (f.open_still j m e);
  same = λ j m e. g.same j m (f.open_still j m e) ∙ f.same j m e;
}

-- one group more
pub asked_groups : (old new : Vec (Vec Key Global) Global) (group : Vec Key Global) → new.items ≡ old.items ++ group ∷ [] → items_of new.items ≡ items_of old.items ++ group.items ∷ []
asked_groups old new group e = ap items_of e ∙ behind old.items
  where
    behind : (gs : List (Vec Key Global)) → items_of (gs ++ group ∷ []) ≡ items_of gs ++ group.items ∷ []
    behind [] = refl
    behind (g ∷ gs) = ap (λ x. g.items ∷ x) (behind gs)

-- a node that is blocked is so still, where another one is set, or itself with the same groups and phase
pub blocked_on : (records : Records) (nodes later : Nodes) (k : Key) (n : Node) (u : Updates key_eq nodes later k (Some n))
    → ((m : Node) (x : Key) → node_at nodes k ≡ Some m → In x m.waiters.items → In x n.waiters.items)
    → (j : Key) (m o : Node) → groups_of m ≡ groups_of o → m.phase ≡ o.phase → IsBlocked records nodes j m → IsBlocked records later j o
blocked_on records nodes later k n u watchers j m o same phases b = record {
  group = b.group;
  current = subst (λ (p : Phase). IsCurrent records j (groups_of o) p b.group) phases (subst (λ (gs : List (List Key)). IsCurrent records j gs m.phase b.group) same b.current);
  wanted = λ i x. elim (b.wanted i x) [ inl z ↦ inl (open_on records nodes later k n u watchers i z) | inr z ↦ inr z ];
  member = b.member;
  among = b.among;
  keeps_back = subst (λ (p : Phase). KeepsBack records later j p b.member) phases (keeps_on records nodes later k n u watchers j m.phase b.member b.keeps_back);
}

-- a node comes to be ready
pub becomes_ready : (records : Records) (nodes : Nodes) (ready more waiting : List Key) (k : Key) (n : Node) → node_at nodes k ≡ Some n → n.phase ≡ phase.Running
    → ((i : Key) → IsMember i (groups_of n) → IsPlain records i) → IsAdded ready more k → IsWhole records nodes ready (k ∷ waiting) → IsWhole records nodes more waiting
becomes_ready records nodes ready more waiting k n e p plain a w = looked_at records nodes more waiting k (record {
  holds = w.holds;
  ready_now = λ j i. elim (a.from j i) [
    | inl x ↦ w.ready_now j x
    | inr q ↦ (n, ap (node_at nodes) (sym q) ∙ e, p, plain)
  ];
  blocked = λ j m f o. elim (w.blocked j m f o) [
    | inl i ↦ inl i
    | inr (inl i) ↦ inr (inl (a.keeps j i))
    | inr (inr b) ↦ inr (inr b)
  ];
}) (λ m f o. inr (inl a.has))
