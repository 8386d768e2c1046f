-- A node is visited.
use Rattle.std.proofs.Common.{◌≡◌, ◌≢◌, ◌⊎◌, inl, inr, ℕ, Bool, true, false, List, [], ◌∷◌, ◌++◌, Option, Some, None, refl, sym, ◌∙◌, ap, subst}
use Rattle.indexmap.specs.IndexMap.{Updates}
use Rattle.std.specs.Cmp.{unsigned_Decides}
use Rattle.std.specs.Prelude.{vec_len, length, ◌==◌}
use Rattle.std.specs.declared.alloc.Global.{Global}
use Rattle.std.specs.declared.vec.Vec.{Vec}
use Rattle.engine_semantics.specs.Value.{In, first, after, IsMember}
use Rattle.engine_semantics.proofs.Moves.{alike}
use Rattle.keys.specs.Keys.{key_eq}
use Rattle.keys.specs.declared.key.Key.{Key}
use Rattle.keys.specs.declared.value.Value.{Value}
use Rattle.node.specs.Graphs.{GraphView, record_at}
use Rattle.node.specs.Records.{items_of}
use Rattle.node.proofs.Lists.{some_is, none_some, true_false, none_of, not_in, decide_key, in_split, in_left, in_right, in_one}
use Rattle.round_nodes.proofs.Lookups.{other_key}
use Rattle.round_nodes.specs.Nodes.{Nodes, node_at, Records, groups_of, pending, IsOpen, IsUnsettled, IsClean, IsPlain, Stands, IsCurrent, IsBlocked, IsWhole, AreOut}
use Rattle.round_nodes.specs.Steps.{Pends, Readies, HasWatcher, SameRuns}
use Rattle.round_nodes.specs.Invariants.{IsTrueOf, IsDoing, TellOut}
use Rattle.round_nodes.specs.declared.run.Run.{Run}
use Rattle.round_nodes.specs.declared.table.Node.{Node}
use Rattle.round_nodes.specs.declared.table.Phase.{Phase}
use Rattle.round_nodes.specs.declared.table.Phase.TheVariants as phase
use Rattle.round_nodes.specs.declared.table.OpenNodes.{OpenNodes}
use Rattle.round_nodes.proofs.Wholes.{unsettled_not_clean, node_changes, open_on, blocked_on, looked_at, more_waiting, current_on, clean_on, becomes_ready}
use Rattle.round_nodes.specs.TurnCounts.{turns_of, MakesNoTurn}
use Rattle.round_nodes.proofs.Counting.{counts_same, same_asked}
use Rattle.round_nodes.proofs.Followings.{grows_none}
use Rattle.round_nodes.proofs.Settlings.{truth_changes}
use Rattle.round_nodes.specs.Members.{IsMissing, plain_value}
use Rattle.round_nodes.proofs.Grouping.{clean_cycle}
use Rattle.round.specs.Moves.{Wants, IsOpenOrSettled, KeepsOpened}
use Rattle.round.specs.Looks.{IsAwaiting, IsLastGroup, IsRunningAt, IsNextKey}
use Rattle.round.specs.Finding.{Finds, FindsIn, FindsRunning, IsIdle}
use Rattle.round.specs.declared.visiting.Look.{Look}
use Rattle.round.specs.declared.visiting.Look.TheVariants as look
use Rattle.round.proofs.Wanting.{StaysTrue, wanted_set}

-- the last elements of equal lists
pub last_same : {X : Type 0} (xs ys : List X) (x y : X) → xs ++ x ∷ [] ≡ ys ++ y ∷ [] → x ≡ y
last_same [] [] x y e = cc
last_same [] (z ∷ []) x y e = cc
last_same [] (z ∷ w ∷ ys) x y e = cc
last_same (z ∷ []) [] x y e = cc
last_same (z ∷ w ∷ xs) [] x y e = cc
last_same (z ∷ xs) (w ∷ ys) x y e = let q : xs ++ x ∷ [] ≡ ys ++ y ∷ [] = cc in last_same xs ys x y q

-- after the members of its group are opened, the node has its group still, and its members are open or settled
module _ (old new : GraphView) (before later : OpenNodes) (k : Key) (missing : List Key) (a : IsAwaiting old before k missing) (w : Wants old new before later)
    (wanted : (j : Key) → In j missing → IsOpenOrSettled new later j) where
  pub still_there : node_at later.nodes k ≡ Some a.node
  still_there = w.widens.open_still k a.node a.there

  pub still_current : IsCurrent (record_at new) k (groups_of a.node) a.node.phase a.group
  still_current = current_on (record_at old) (record_at new) w.widens.clean k (groups_of a.node) a.node.phase a.group (w.widens.same k a.node a.there) a.current

  pub all_wanted : (j : Key) → In j a.group → IsOpenOrSettled new later j
  all_wanted j i = elim (a.of_group.rest j i) [ inl m ↦ wanted j m | inr c ↦ inr (clean_on (record_at old) (record_at new) w.widens.clean j c) ]

-- a node comes to wait for a member of its group
module _ (graph : GraphView) (before later : OpenNodes) (k member : Key) (n : Node) (group : List Key)
    (w : IsWhole (record_at graph) before.nodes before.ready.keys (k ∷ pending before))
    (there : node_at before.nodes k ≡ Some n) (current : IsCurrent (record_at graph) k (groups_of n) n.phase group)
    (wanted : (j : Key) → In j group → IsOpen before.nodes j ⊎ IsClean (record_at graph) j)
    (among : In member group) (open_member : IsOpen before.nodes member)
    (watches : HasWatcher before.nodes later.nodes member k) (pends : pending later ≡ pending before) (ready : later.ready.keys ≡ before.ready.keys) where
  abbrev m : Node
  m = open_member.0

  abbrev o : Node
  o = (watches m open_member.1).0

  abbrev u : Updates key_eq before.nodes later.nodes member (Some o)
  u = (watches m open_member.1).1

  same_groups : groups_of m ≡ groups_of o
  same_groups = sym (ap items_of (watches m open_member.1).2)

  same_phase : m.phase ≡ o.phase
  same_phase = sym (watches m open_member.1).3

  more_watchers : (x : Node) (y : Key) → node_at before.nodes member ≡ Some x → In y x.waiters.items → In y o.waiters.items
  more_watchers x y e i = subst (In y) (sym (watches m open_member.1).4) (in_left (k ∷ []) (subst (λ (z : Node). In y z.waiters.items) (some_is (sym e ∙ open_member.1)) i))

  now_watches : In k o.waiters.items
  now_watches = subst (In k) (sym (watches m open_member.1).4) (in_right m.waiters.items first)

  changed : IsWhole (record_at graph) later.nodes before.ready.keys (k ∷ pending before)
  changed = node_changes (record_at graph) before.nodes later.nodes member o u before.ready.keys before.ready.keys (k ∷ pending before) (k ∷ pending before) w
      (w.holds member m open_member.1).0
      (subst (λ (p : Phase). Stands (record_at graph) member (groups_of o) p) same_phase (subst (λ (gs : List (List Key)). Stands (record_at graph) member gs m.phase) same_groups (w.holds member m open_member.1).1))
      more_watchers
      (λ j i. elim (decide_key member j) [
        | inl q ↦ let r = w.ready_now j i in let is : r.0 ≡ m = some_is (sym r.1 ∙ ap (node_at before.nodes) (sym q) ∙ open_member.1) in
            inr (q, sym same_phase ∙ ap (λ (x : Node). x.phase) (sym is) ∙ r.2, λ x y. r.3 x (subst (λ (gs : List (List Key)). IsMember x gs) (sym same_groups ∙ ap groups_of (sym is)) y))
        | inr d ↦ inl (d, i)
      ])
      (λ j d i. i) (λ j d i. i)
      (λ f. elim (w.blocked member m open_member.1 (λ e. f (sym same_phase ∙ e))) [
        | inl i ↦ inl i
        | inr (inl i) ↦ inr (inl i)
        | inr (inr b) ↦ inr (inr (blocked_on (record_at graph) before.nodes later.nodes member o u more_watchers member m o same_groups same_phase b))
      ])

  now_blocked : (x : Node) → node_at later.nodes k ≡ Some x → IsBlocked (record_at graph) later.nodes k x
  now_blocked x e = elim (decide_key member k) [
    | inl q ↦ let mk : m ≡ n = some_is (sym open_member.1 ∙ ap (node_at before.nodes) q ∙ there) in
        let ox : o ≡ x = some_is (sym u.1 ∙ ap (node_at later.nodes) q ∙ e) in
        of_node x (ap groups_of (sym mk) ∙ same_groups ∙ ap groups_of ox) (ap (λ (y : Node). y.phase) (sym mk) ∙ same_phase ∙ ap (λ (y : Node). y.phase) ox)
    | inr d ↦ let nx : n ≡ x = some_is (sym there ∙ sym (other_key before.nodes later.nodes member (Some o) u k d) ∙ e) in
        of_node x (ap groups_of nx) (ap (λ (y : Node). y.phase) nx)
  ]
    where
      of_node : (x : Node) → groups_of n ≡ groups_of x → n.phase ≡ x.phase → IsBlocked (record_at graph) later.nodes k x
      of_node x g p = record {
        group = group;
        current = subst (λ (y : Phase). IsCurrent (record_at graph) k (groups_of x) y group) p (subst (λ (gs : List (List Key)). IsCurrent (record_at graph) k gs n.phase group) g current);
        wanted = λ j i. elim (wanted j i) [ inl z ↦ inl (open_on (record_at graph) before.nodes later.nodes member o u more_watchers j z) | inr z ↦ inr z ];
        member = member;
        among = among;
        keeps_back = inl (o, u.1, now_watches);
      }

  pub watched_whole : IsWhole (record_at graph) later.nodes later.ready.keys (pending later)
  watched_whole = subst (λ (xs : List Key). IsWhole (record_at graph) later.nodes xs (pending later)) (sym ready) (subst (λ (xs : List Key). IsWhole (record_at graph) later.nodes before.ready.keys xs) (sym pends)
      (looked_at (record_at graph) later.nodes before.ready.keys (pending before) k changed (λ x e f. inr (inr (now_blocked x e)))))

  pub watched_out : (keys : List Key) → AreOut before.nodes keys → AreOut later.nodes keys
  watched_out keys out j x e f = elim (decide_key member j) [
    | inl q ↦ subst (λ y. In y keys) q (out member m open_member.1 (same_phase ∙ ap (λ (y : Node). y.phase) (some_is (sym u.1 ∙ ap (node_at later.nodes) q ∙ e)) ∙ f))
    | inr d ↦ out j x (sym (other_key before.nodes later.nodes member (Some o) u j d) ∙ e) f
  ]

  pub watched_keeps : KeepsOpened graph graph before later
  watched_keeps = wanted_set graph before later member o u

  pub watched_turns : SameRuns before later → MakesNoTurn before later
  watched_turns runs = same_asked before later member m o open_member.1 u (ap (λ (gs : List (Vec Key Global)). length gs) (watches m open_member.1).2) runs

  pub watched_true : (read : Key → Option Value) → SameRuns before later → StaysTrue read graph graph before later
  watched_true read runs = λ next laws past cs t. let h = t.opened member m open_member.1 in
      subst (λ (x : List Run). IsTrueOf next read past cs graph later.nodes x) (sym runs)
      (truth_changes next read laws past cs cs (grows_none next read past cs) graph before.nodes later.nodes before.runs.items member o (λ j d. alike j cs) u t (record {
        no_leaf = h.no_leaf;
        reached = h.reached;
        wanted = h.wanted;
        same = h.same;
        doing = subst (λ (p : Phase). IsDoing next read past cs graph member (groups_of o) p) same_phase (subst (λ (gs : List (List Key)). IsDoing next read past cs graph member gs m.phase) same_groups h.doing);
        out = subst (λ (p : Phase). TellOut next read past cs member p) same_phase h.out;
      }) (w.holds member m open_member.1).0)

-- a node is to be visited again
module _ (graph : GraphView) (before later : OpenNodes) (k : Key) (pends : Pends before later k) (nodes : later.nodes ≡ before.nodes) where
  pub again_whole : IsWhole (record_at graph) before.nodes before.ready.keys (k ∷ pending before) → IsWhole (record_at graph) later.nodes later.ready.keys (pending later)
  again_whole w = subst (λ (x : Nodes). IsWhole (record_at graph) x later.ready.keys (pending later)) (sym nodes) (subst (λ (xs : List Key). IsWhole (record_at graph) before.nodes xs (pending later)) (sym pends.ready)
      (more_waiting (record_at graph) before.nodes before.ready.keys (k ∷ pending before) (pending later) w (λ j i. subst (In j) (sym pends.pends) (turn (pending before) i))))
    where
      turn : (xs : List Key) {j : Key} → In j (k ∷ xs) → In j (xs ++ k ∷ [])
      turn xs {j = j} i = go i refl
        where
          go : {ys : List Key} → In j ys → ys ≡ k ∷ xs → In j (xs ++ k ∷ [])
          go (first {xs = zs}) e = let q : k ≡ j = cc in subst (λ y. In y (xs ++ k ∷ [])) q (in_right xs first)
          go (after {xs = zs} h) e = let q : zs ≡ xs = cc in in_left (k ∷ []) (subst (In j) q h)

  pub again_turns : MakesNoTurn before later
  again_turns = counts_same before later nodes (ap turns_of pends.runs)

  pub again_true : (read : Key → Option Value) → StaysTrue read graph graph before later
  again_true read = λ next laws past cs t. subst (λ (x : Nodes). IsTrueOf next read past cs graph x later.runs.items) (sym nodes) (subst (λ (x : List Run). IsTrueOf next read past cs graph before.nodes x) (sym pends.runs) t)

-- an unsettled key that is opened is open
pub wanted_open : (graph : GraphView) (table : OpenNodes) (k : Key) → IsOpenOrSettled graph table k → IsUnsettled (record_at graph) k → IsOpen table.nodes k
wanted_open graph table k (inl o) u = o
wanted_open graph table k (inr c) u = absurd (unsettled_not_clean (record_at graph k) c.0 u c.1 c.2)

-- a node that makes turns, whose last group is settled
module _ (graph : GraphView) (before : OpenNodes) (k : Key) (group : List Key) (run : IsRunningAt before k group)
    (w : IsWhole (record_at graph) before.nodes before.ready.keys (k ∷ pending before)) (settled : (j : Key) → In j group → IsClean (record_at graph) j) where
  abbrev node : Node
  node = run.0

  stand : Stands (record_at graph) k (groups_of node) phase.Running
  stand = subst (λ (p : Phase). Stands (record_at graph) k (groups_of node) p) run.2 (w.holds k node run.1).1

  -- a member that is settled as a cycle keeps it back
  pub held_back : (j : Key) → In j group → plain_value (record_at graph j) ≡ None → IsWhole (record_at graph) before.nodes before.ready.keys (pending before)
  held_back j i e = looked_at (record_at graph) before.nodes before.ready.keys (pending before) k w (λ x f o. inr (inr (blocked x f (current run.3))))
    where
      current : IsLastGroup (groups_of node) group → (passed : List (List Key)) × (groups_of node ≡ passed ++ group ∷ [])
      current (inl n) = elim (subst (In j) n.1 i) [ ]
      current (inr p) = p

      blocked : (x : Node) → node_at before.nodes k ≡ Some x → (passed : List (List Key)) × (groups_of node ≡ passed ++ group ∷ []) → IsBlocked (record_at graph) before.nodes k x
      blocked x f p = let same : node ≡ x = some_is (sym run.1 ∙ f) in record {
        group = group;
        current = subst (λ (y : Node). IsCurrent (record_at graph) k (groups_of y) y.phase group) same (subst (λ (q : Phase). IsCurrent (record_at graph) k (groups_of node) q group) (sym run.2) p);
        wanted = λ y m. inr (settled y m);
        member = j;
        among = i;
        keeps_back = inr (ap (λ (y : Node). y.phase) (sym same) ∙ run.2, clean_cycle (record_at graph) j (settled j i) e);
      }

  -- all members are plain, so its next turn can be handed out
  pub all_plain : ((j : Key) → In j group → IsPlain (record_at graph) j) → (j : Key) → IsMember j (groups_of node) → IsPlain (record_at graph) j
  all_plain plain j m = go stand run.3
    where
      go : Stands (record_at graph) k (groups_of node) phase.Running → IsLastGroup (groups_of node) group → IsPlain (record_at graph) j
      go (inl e) l = elim (subst (IsMember j) e m).1 [ ]
      go (inr s) (inl n) = elim (subst (IsMember j) n.0 m).1 [ ]
      go (inr s) (inr p) = let q = last_same s.0 p.0 s.1 group (sym s.2 ∙ p.1) in
          elim (in_split m.1 s.0 (s.1 ∷ []) s.2) [
            | inl a ↦ s.3 j (m.0, a, m.2)
            | inr b ↦ plain j (subst (In j) (in_one b ∙ q) m.2)
          ]

  pub now_ready : (later : OpenNodes) → Readies before later k → later.nodes ≡ before.nodes → ((j : Key) → In j group → IsPlain (record_at graph) j) → IsWhole (record_at graph) later.nodes later.ready.keys (pending later)
  now_ready later readies nodes plain = subst (λ (x : Nodes). IsWhole (record_at graph) x later.ready.keys (pending later)) (sym nodes) (subst (λ (xs : List Key). IsWhole (record_at graph) before.nodes later.ready.keys xs) (sym readies.pends)
      (becomes_ready (record_at graph) before.nodes before.ready.keys later.ready.keys (pending before) k node run.1 run.2 (all_plain plain) readies.ready w))

-- the members that wait of a node that makes turns
pub running_awaits : (graph : GraphView) (before : OpenNodes) (k : Key) (group missing : List Key) → IsRunningAt before k group → IsMissing (record_at graph) group missing → (missing ≡ [] → ⊥) → IsAwaiting graph before k missing
running_awaits graph before k group missing run m n = record { node = run.0; there = run.1; group = group; current = subst (λ (p : Phase). IsCurrent (record_at graph) k (groups_of run.0) p group) (sym run.2) (current run.3); of_group = m }
  where
    none : (xs : List Key) → ((j : Key) → In j xs → In j group) → group ≡ [] → xs ≡ []
    none [] f e = refl
    none (x ∷ xs) f e = elim (subst (In x) e (f x first)) [ ]

    current : IsLastGroup (groups_of run.0) group → (passed : List (List Key)) × (groups_of run.0 ≡ passed ++ group ∷ [])
    current (inl e) = absurd (n (none missing m.among e.1))
    current (inr p) = p

-- a node that does neither is visited for nothing
looked_idle : (graph : GraphView) (table : OpenNodes) (k : Key) → IsWhole (record_at graph) table.nodes table.ready.keys (k ∷ pending table) → IsIdle table k → IsWhole (record_at graph) table.nodes table.ready.keys (pending table)
looked_idle graph table k w idle = looked_at (record_at graph) table.nodes table.ready.keys (pending table) k w (λ n e o. absurd (go n e o idle))
  where
    go : (n : Node) → node_at table.nodes k ≡ Some n → n.phase ≢ phase.Out → IsIdle table k → ⊥
    go n e o (inl none) = none_some (sym none ∙ e)
    go n e o (inr out) = o (ap (λ (x : Node). x.phase) (some_is (sym e ∙ out.1)) ∙ out.2)

-- what the last group of a node that makes turns shows
pub running_finds : (records : Records) (table : OpenNodes) (k : Key) (group : List Key) → IsRunningAt table k group → (found : Look) → FindsIn records group found → Finds records table k found
running_finds records table k group r (look.Checks at) f = absurd f
running_finds records table k group r (look.Lacks missing) f = record { group = group; running = r; finds = f }
running_finds records table k group r look.Answered f = record { group = group; running = r; finds = f }
running_finds records table k group r look.Rests f = inr (record { group = group; running = r; finds = f })

-- a visit that finds nothing to do
pub looked_for_nothing : (graph : GraphView) (table : OpenNodes) (k : Key) → IsWhole (record_at graph) table.nodes table.ready.keys (k ∷ pending table)
    → IsIdle table k ⊎ FindsRunning (record_at graph) table k look.Rests → IsWhole (record_at graph) table.nodes table.ready.keys (pending table)
looked_for_nothing graph table k w (inl idle) = looked_idle graph table k w idle
looked_for_nothing graph table k w (inr f) = let s = f.finds.stop in held_back graph table k f.group f.running w f.finds.settled s.0 s.1 s.2

-- where none is missing, all members are settled
pub none_missing : (records : Records) (group : List Key) (missing : Vec Key Global) → IsMissing records group missing.items → (b : Bool) → b ≡ (vec_len missing == 0) → b ≡ true → (j : Key) → In j group → IsClean records j
none_missing records group missing m b h t j i = elim (m.rest j i) [ inl x ↦ absurd (not_in x empty) | inr c ↦ c ]
  where
    empty : missing.items ≡ []
    empty = none_of missing.items (sym missing.ok.0 ∙ (unsigned_Decides (vec_len missing) 0).0 (sym h ∙ t))

-- the first of those that are to be visited is taken off
module _ (graph : GraphView) (before later : OpenNodes) (k : Key) (next_key : IsNextKey before later (Some k)) where
  pub next_true : (read : Key → Option Value) → StaysTrue read graph graph before later
  next_true read = λ next laws past cs t. subst (λ (x : Nodes). IsTrueOf next read past cs graph x later.runs.items) (sym next_key.1) (subst (λ (x : List Run). IsTrueOf next read past cs graph before.nodes x) (sym next_key.3) t)

pub next_nodes : (before later : OpenNodes) (k : Option Key) → IsNextKey before later k → later.nodes ≡ before.nodes
next_nodes before later (Some k) n = n.1
next_nodes before later None n = ap (λ (x : OpenNodes). x.nodes) n.1
