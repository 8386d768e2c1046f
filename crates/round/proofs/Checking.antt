-- A check continues to the next group, or gives up.
use Rattle.std.proofs.Common.{◌≡◌, ◌≢◌, inl, inr, ℕ, ◌+◌, ◌<◌, ◌≤◌, zero, suc, true, false, nat_lt, List, [], ◌∷◌, ◌++◌, length, take, Option, Some, refl, sym, ◌∙◌, ap, subst, arith, add-one}
use Rattle.indexmap.specs.IndexMap.{Updates}
use Rattle.std.specs.declared.alloc.Global.{Global}
use Rattle.std.specs.declared.vec.Vec.{Vec}
use Rattle.engine_semantics.specs.Value.{In, first, after, IsMember}
use Rattle.engine_semantics.specs.Reply.{Reply}
use Rattle.engine_semantics.specs.Graph.{Record, Differs}
use Rattle.engine_semantics.specs.Choices.{Choice}
use Rattle.engine_semantics.specs.Choices as choices
use Rattle.engine_semantics.specs.States.{HasBacks}
use Rattle.engine_semantics.proofs.Moves.{alike}
use Rattle.engine_semantics.specs.Journal.{RunIsJustified, dependency_differs}
use Rattle.keys.specs.Cycles.{cycle}
use Rattle.keys.specs.Keys.{key_eq}
use Rattle.keys.specs.declared.key.Key.{Key}
use Rattle.keys.specs.declared.value.Value.{Value}
use Rattle.node.specs.Graphs.{GraphView, record_at, IsTouched}
use Rattle.node.proofs.Lists.{some_is, decide_key, in_left, in_right}
use Rattle.round_nodes.proofs.Lookups.{other_key}
use Rattle.round_nodes.specs.Nodes.{node_at, groups_of, pending, IsClean, IsStill, IsCurrent, Stands, IsWhole, AreOut}
use Rattle.round_nodes.specs.Steps.{Pends, Readies, HasPhase, SameRuns}
use Rattle.round_nodes.specs.Invariants.{IsNext, Past, IsTrueOf, Asks, nothing, IsDoing, IsCheck, TellOut, AreUnchanged}
use Rattle.round_nodes.specs.declared.run.Run.{Run}
use Rattle.round_nodes.specs.declared.table.Node.{Node}
use Rattle.round_nodes.specs.declared.table.Phase.{Phase}
use Rattle.round_nodes.specs.declared.table.Phase.TheVariants as phase
use Rattle.round_nodes.specs.declared.table.OpenNodes.{OpenNodes}
use Rattle.round_nodes.proofs.Wholes.{node_changes}
use Rattle.round_nodes.specs.TurnCounts.{MakesNoTurn}
use Rattle.round_nodes.proofs.Counting.{same_asked}
use Rattle.round_nodes.proofs.Followings.{grows_none}
use Rattle.round_nodes.proofs.Settlings.{truth_changes}
use Rattle.node.specs.Comparisons.{has_changed, Compares}
use Rattle.node.specs.declared.comparison.Comparison.{Comparison}
use Rattle.node.specs.declared.comparison.Comparison.TheVariants as compared
use Rattle.round_nodes.specs.Members.{IsMissing}
use Rattle.round.proofs.Comparing.{IsNextGroup, HasChanged, HasNotChanged, over_is, waits_is, differs_is, passes_is}
use Rattle.round.specs.Moves.{KeepsOpened}
use Rattle.round.specs.Looks.{IsAwaiting, IsChecking, HasPassed}
use Rattle.round_nodes.proofs.Grouping.{snoc_in}
use Rattle.round.proofs.Wanting.{StaysTrue, wanted_set}
use Rattle.round.proofs.Confirming.{standing}
use Rattle.round.proofs.Reaching.{rest_is, current_wants}
use Rattle.round.proofs.Seeking.{settled_by, still_unchanged, changed_since}

-- one group more is taken
pub next_taken : (i : ℕ) (gs : List (List Key)) (g : List Key) (rest : List (List Key)) → gs ≡ take i gs ++ g ∷ rest → take (suc i) gs ≡ take i gs ++ g ∷ []
next_taken zero [] g rest e = cc
next_taken zero (x ∷ gs) g rest e = let q : x ≡ g = cc in ap (λ y. y ∷ []) q
next_taken (suc i) [] g rest e = cc
next_taken (suc i) (x ∷ gs) g rest e = let q : gs ≡ take i gs ++ g ∷ rest = cc in ap (λ y. x ∷ y) (next_taken i gs g rest q)

module _ (graph : GraphView) (before later : OpenNodes) (k : Key) (at : ℕ) (c : IsChecking before k at)
    (w : IsWhole (record_at graph) before.nodes before.ready.keys (k ∷ pending before)) where
  abbrev n : Node
  n = c.0

  abbrev stand : Stands (record_at graph) k (groups_of n) (phase.Checking at)
  stand = standing (record_at graph) before.nodes w.holds k n c.1 at c.2

  abbrev r : Record Key Value
  r = stand.0

  -- what a check finds, by the node's record
  compared_there : (found : Comparison) → Compares (record_at graph) (record_at graph k) at found → Compares (record_at graph) (Some r) at found
  compared_there found f = subst (λ o. Compares (record_at graph) o at found) stand.1 f

  -- all groups are passed
  pub passes_all : (found : Comparison) → Compares (record_at graph) (record_at graph k) at found → found ≡ compared.Unchanged → HasPassed graph before k
  passes_all found f e = record {
    node = n;
    there = c.1;
    at = at;
    checking = c.2;
    over = λ x h. over_is (record_at graph) x at found (subst (λ o. Compares (record_at graph) o at found) h f) e;
  }

  -- members of the next group are not settled
  pub awaits : (missing : List Key) → (group : List Key) × IsNextGroup r at group × IsMissing (record_at graph) group missing → IsAwaiting graph before k missing
  awaits missing f = record { node = n; there = c.1; group = f.0; current = subst (λ p. IsCurrent (record_at graph) k (groups_of n) p f.0) (sym c.2) (r, f.1.0, stand.1, f.1.1); of_group = f.2 }

  pub awaits_found : (found : Comparison) → Compares (record_at graph) (record_at graph k) at found → (missing : Vec Key Global) → found ≡ compared.NeedsMembers missing → (slice : List Key) → slice ≡ missing.items → IsAwaiting graph before k slice
  awaits_found found f missing e slice q = let y = waits_is (record_at graph) r at found (compared_there found f) missing e in awaits slice (y.0, y.1, subst (IsMissing (record_at graph) y.0) (sym q) y.2)

  pub differs_found : (found : Comparison) → Compares (record_at graph) (record_at graph k) at found → found ≡ compared.Changed → (group : List Key) × IsNextGroup r at group × HasChanged (record_at graph) group r.settled_at
  differs_found found f e = differs_is (record_at graph) r at found (compared_there found f) e

  pub passes_found : (found : Comparison) → Compares (record_at graph) (record_at graph k) at found → (next : ℕ) → found ≡ compared.NextGroup next
      → ((group : List Key) × IsNextGroup r at group × HasNotChanged (record_at graph) group r.settled_at) × (next ≡ at + 1)
  passes_found found f next e = passes_is (record_at graph) r at found (compared_there found f) next e

  abbrev u : (p : _) → HasPhase before.nodes later.nodes k p → Updates key_eq before.nodes later.nodes k (Some (record n { phase = p }))
  u p h = h n c.1

  apart : (j : Key) → In j before.ready.keys → k ≢ j
  apart j i q = let y = w.ready_now j i in no (sym c.2 ∙ ap (λ (x : Node). x.phase) (some_is (sym c.1 ∙ ap (node_at before.nodes) q ∙ y.1)) ∙ y.2)
    where
      no : phase.Checking at ≡ phase.Running → ⊥
      no e = cc

  tail_in : {j : Key} {xs : List Key} → In j xs → xs ≡ k ∷ pending before → k ≢ j → In j (pending before)
  tail_in {j = j} (first {xs = ys}) e d = let q : k ≡ j = cc in absurd (d q)
  tail_in {j = j} (after {xs = ys} i) e d = let q : ys ≡ pending before = cc in subst (In j) q i

  same_watchers : (m : Node) (x : Key) → node_at before.nodes k ≡ Some m → In x m.waiters.items → In x n.waiters.items
  same_watchers m x e i = subst (λ (y : Node). In x y.waiters.items) (some_is (sym e ∙ c.1)) i

  out_on : (p : _) → p ≢ phase.Out → HasPhase before.nodes later.nodes k p → (keys : List Key) → AreOut before.nodes keys → AreOut later.nodes keys
  out_on p d h keys o j m e f = elim (decide_key k j) [
    | inl q ↦ absurd (d (ap (λ (y : Node). y.phase) (some_is (sym (u p h).1 ∙ ap (node_at later.nodes) q ∙ e)) ∙ f))
    | inr x ↦ o j m (sym (other_key before.nodes later.nodes k (Some (record n { phase = p })) (u p h) j x) ∙ e) f
  ]

  none_more : (p : Phase) → HasPhase before.nodes later.nodes k p → SameRuns before later → MakesNoTurn before later
  none_more p h runs = same_asked before later k n (record n { phase = p }) c.1 (u p h) refl runs

  pub set_keeps : (p : Phase) → HasPhase before.nodes later.nodes k p → KeepsOpened graph graph before later
  set_keeps p h = wanted_set graph before later k (record n { phase = p }) (u p h)

  regroup : (p : List (List Key)) (g : List Key) (q : List (List Key)) → p ++ g ∷ q ≡ (p ++ g ∷ []) ++ q
  regroup [] g q = refl
  regroup (x ∷ p) g q = ap (λ y. x ∷ y) (regroup p g q)

  -- its record at the entry, and what the choices say of its check, which comes to the group
  its_check : (next : Key → List Value → Reply Key Value) (read : Key → Option Value) (past : Past read) (cs : List (Choice Key)) → IsTrueOf next read past cs graph before.nodes before.runs.items → (group : List Key) (g : IsNextGroup r at group)
      → (e : Record Key Value) × (record_at past.entry k ≡ Some e) × (e.dirty ≡ true) × (r ≡ e) × (e.groups ≡ take at e.groups ++ group ∷ g.0)
      × choices.Checks next cycle read (record_at past.entry) past.roots cs k e (take at e.groups) (group ∷ g.0) × AreUnchanged next read past graph e.settled_at (take at e.groups) × HasBacks k 0 cs
  its_check next read past cs t group g =
      let o = t.opened k n c.1 in
      let d = subst (λ (x : Phase). IsDoing next read past cs graph k (groups_of n) x) c.2 o.doing in
      let same : r ≡ d.of_entry = some_is (sym stand.1 ∙ (o.same ∙ d.recorded)) in
      let split : d.of_entry.groups ≡ take at d.of_entry.groups ++ group ∷ g.0 = subst (λ (x : Record Key Value). x.groups ≡ take at x.groups ++ group ∷ g.0) same g.1 in (
        d.of_entry,
        d.recorded,
        d.marked,
        same,
        split,
        subst (λ y. choices.Checks next cycle read (record_at past.entry) past.roots cs k d.of_entry (take at d.of_entry.groups) y) (rest_is (take at d.of_entry.groups) d.rest (group ∷ g.0) (sym d.split ∙ split)) d.checks,
        d.unchanged,
        d.none_taken,
      )

  -- the next group has not changed
  module _ (found : (group : List Key) × IsNextGroup r at group × HasNotChanged (record_at graph) group r.settled_at)
      (pends : Pends before later k) (h : HasPhase before.nodes later.nodes k (phase.Checking (at + 1))) where
    still_member : (j : Key) → In j found.0 → IsStill (record_at graph) r.settled_at j
    still_member j i = let s = found.2.0 j i in (s.0, s.1, s.2, early s.0 (sym (ap (λ o. has_changed o r.settled_at) s.1) ∙ found.2.1 j i))
      where
        early : (s : Record Key Value) → nat_lt r.settled_at s.changed_at ≡ false → s.changed_at ≤ r.settled_at
        early s e = grind (arith, e)

    stands_next : Stands (record_at graph) k (groups_of n) (phase.Checking (at + 1))
    stands_next = (r, stand.1, stand.2, λ j m. split j (subst (IsMember j) (rw add-one (next_taken at r.groups found.0 found.1.0 found.1.1)) m))
      where
        split : (j : Key) → IsMember j (take at r.groups ++ found.0 ∷ []) → IsStill (record_at graph) r.settled_at j
        split j m = elim (snoc_in (take at r.groups) m.1) [ inl a ↦ stand.3 j (m.0, a, m.2) | inr q ↦ still_member j (subst (In j) q m.2) ]

    pub passed_whole : IsWhole (record_at graph) later.nodes later.ready.keys (pending later)
    passed_whole = subst (λ (xs : List Key). IsWhole (record_at graph) later.nodes xs (pending later)) (sym pends.ready)
        (node_changes (record_at graph) before.nodes later.nodes k (record n { phase = phase.Checking (at + 1) }) (u (phase.Checking (at + 1)) h) before.ready.keys before.ready.keys (k ∷ pending before) (pending later) w
        (w.holds k n c.1).0 stands_next same_watchers (λ j i. inl (apart j i, i)) (λ j d i. i)
        (λ j d i. subst (In j) (sym pends.pends) (in_left (k ∷ []) (tail_in i refl d)))
        (λ o. inl (subst (In k) (sym pends.pends) (in_right (pending before) first))))

    pub passed_out : (keys : List Key) → AreOut before.nodes keys → AreOut later.nodes keys
    passed_out = out_on (phase.Checking (at + 1)) (λ e. cc) h

    pub passed_turns : MakesNoTurn before later
    passed_turns = none_more (phase.Checking (at + 1)) h pends.runs

    pub passed_true : (read : Key → Option Value) → StaysTrue read graph graph before later
    passed_true read = λ next laws past cs t. let o = t.opened k n c.1 in
        subst (λ (x : List Run). IsTrueOf next read past cs graph later.nodes x) (sym pends.runs)
        (truth_changes next read laws past cs cs (grows_none next read past cs) graph before.nodes later.nodes before.runs.items k (record n { phase = phase.Checking (at + 1) }) (λ j d. alike j cs) (u (phase.Checking (at + 1)) h) t (record {
          no_leaf = o.no_leaf;
          reached = o.reached;
          wanted = o.wanted;
          same = o.same;
          doing = further next laws past cs t;
          out = subst (λ (x : Phase). TellOut next read past cs k x) c.2 o.out;
        }) (w.holds k n c.1).0)
      where
        further : (next : Key → List Value → Reply Key Value) (laws : IsNext next) (past : Past read) (cs : List (Choice Key)) → IsTrueOf next read past cs graph before.nodes before.runs.items → IsCheck next read past cs graph k (at + 1)
        further next laws past cs t =
            let s = its_check next read past cs t found.0 found.1 in
            let e = s.0 in
            let more = next_taken at e.groups found.0 found.1.0 s.4 in
            let wants = λ (j : Key) (i : In j found.0). current_wants next read laws past cs graph before.nodes before.runs.items t k n c.1 found.0 (subst (λ p. IsCurrent (record_at graph) k (groups_of n) p found.0) (sym c.2) (r, found.1.0, stand.1, found.1.1)) j i in
            let same = λ (j : Key) (i : In j found.0). still_unchanged next read laws past cs graph before.nodes before.runs.items t k e s.1 s.2 j (found.0, subst (In found.0) (sym s.4) (in_right (take at e.groups) first), i)
            (subst (λ (x : Record Key Value). IsStill (record_at graph) x.settled_at j) s.3 (still_member j i)) in
            record {
              of_entry = e;
              recorded = s.1;
              marked = s.2;
              rest = found.1.0;
              checks = subst (λ gs. choices.Checks next cycle read (record_at past.entry) past.roots cs k e gs found.1.0) (rw add-one (sym more))
                  (choices.passes s.5 (λ j i. settled_by next read laws past cs graph before.nodes before.runs.items t j (found.2.0 j i) (wants j i)) same);
              split = s.4 ∙ regroup (take at e.groups) found.0 found.1.0 ∙ ap (λ gs. gs ++ found.1.0) (rw add-one (sym more));
              unchanged = λ j m. grown e s.6 same j (subst (IsMember j) (rw add-one more) m);
              none_taken = s.7;
            }
          where
            grown : (e : Record Key Value) → AreUnchanged next read past graph e.settled_at (take at e.groups) → ((j : Key) → In j found.0 → choices.Unchanged next cycle read (record_at past.entry) e.settled_at j)
                → (j : Key) → IsMember j (take at e.groups ++ found.0 ∷ []) → IsClean (record_at graph) j × choices.Unchanged next cycle read (record_at past.entry) e.settled_at j
            grown e before same j m = elim (snoc_in (take at e.groups) m.1) [
              | inl a ↦ before j (m.0, a, m.2)
              | inr q ↦ let i = subst (In j) q m.2 in (found.2.0 j i, same j i)
            ]

  -- a member of the next group has changed
  module _ (found : (group : List Key) × IsNextGroup r at group × HasChanged (record_at graph) group r.settled_at)
      (readies : Readies before later k) (h : HasPhase before.nodes later.nodes k phase.Running) where
    no_members : (i : Key) → IsMember i (groups_of n) → ⊥
    no_members i m = elim (subst (IsMember i) stand.2 m).1 [ ]

    pub rerun_whole : IsWhole (record_at graph) later.nodes later.ready.keys (pending later)
    rerun_whole = subst (λ (xs : List Key). IsWhole (record_at graph) later.nodes later.ready.keys xs) (sym readies.pends)
        (node_changes (record_at graph) before.nodes later.nodes k (record n { phase = phase.Running }) (u phase.Running h) before.ready.keys later.ready.keys (k ∷ pending before) (pending before) w
        (w.holds k n c.1).0 (inl stand.2) same_watchers
        (λ j i. elim (readies.ready.from j i) [ inl a ↦ inl (apart j a, a) | inr q ↦ inr (q, refl, λ x m. absurd (no_members x m)) ])
        (λ j d i. readies.ready.keeps j i) (λ j d i. tail_in i refl d) (λ o. inr (inl readies.ready.has)))

    pub rerun_out : (keys : List Key) → AreOut before.nodes keys → AreOut later.nodes keys
    rerun_out = out_on phase.Running (λ e. cc) h

    in_groups : In found.0 r.groups
    in_groups = subst (In found.0) (sym found.1.1) (in_right (take at r.groups) first)

    pub rerun_turns : MakesNoTurn before later
    rerun_turns = none_more phase.Running h readies.runs

    pub rerun_true : (read : Key → Option Value) → StaysTrue read graph graph before later
    rerun_true read = λ next laws past cs t. let o = t.opened k n c.1 in
        let s = its_check next read past cs t found.0 found.1 in
        let e = s.0 in
        let changes = changed_since next read laws past cs graph before.nodes before.runs.items t k e s.1 s.2 found.2.1.0 (found.0, subst (In found.0) (sym s.4) (in_right (take at e.groups) first), found.2.1.1)
        (found.2.0 found.2.1.0 found.2.1.1) (subst (λ (x : Record Key Value). has_changed (record_at graph found.2.1.0) x.settled_at ≡ true) s.3 found.2.1.2) in
        let j = found.2.1.0 in
        let d = (t.after.lawful.each k r stand.1).depends j (found.0, in_groups, found.2.1.1) in
        let changed : nat_lt r.settled_at d.of_j.changed_at ≡ true = sym (ap (λ x. has_changed x r.settled_at) d.recorded) ∙ found.2.1.2 in
        subst (λ (x : List Run). IsTrueOf next read past cs graph later.nodes x) (sym readies.runs)
        (truth_changes next read laws past cs cs (grows_none next read past cs) graph before.nodes later.nodes before.runs.items k (record n { phase = phase.Running }) (λ j d. alike j cs) (u phase.Running h) t (record {
          no_leaf = o.no_leaf;
          reached = o.reached;
          wanted = o.wanted;
          same = o.same;
          out = subst (λ (x : Phase). TellOut next read past cs k x) c.2 o.out;
          doing = record {
            justified = subst (RunIsJustified next cycle past.reads (λ x y. IsTouched (past.edits x) y) past.entry.version) (sym stand.1 ∙ o.same)
                (dependency_differs (found.0, in_groups, found.2.1.1) (subst (λ v. Differs next cycle past.reads j r.settled_at v) t.after.version (d.changed (late changed)).0));
            asks = subst (Asks next read past k []) (sym stand.2) nothing;
            runs = choices.differs s.5 (λ i m. settled_by next read laws past cs graph before.nodes before.runs.items t i (found.2.0 i m)
                (current_wants next read laws past cs graph before.nodes before.runs.items t k n c.1 found.0 (subst (λ p. IsCurrent (record_at graph) k (groups_of n) p found.0) (sym c.2) (r, found.1.0, stand.1, found.1.1)) i m)) found.2.1.1 changes;
            begun = inr (
              e,
              s.1,
              s.2,
              record {
                passed = take at e.groups;
                group = found.0;
                rest = found.1.0;
                split = s.4;
                unchanged = s.6;
                settled = found.2.0;
                member = found.2.1.0;
                among = found.2.1.1;
                changed = changes;
              },
            );
            taken = subst (λ (gs : List (List Key)). HasBacks k (length gs) cs) (sym stand.2) s.7;
          };
        }) (w.holds k n c.1).0)
      where
        late : {a b : ℕ} → nat_lt a b ≡ true → a < b
        late e = grind (arith, e)
