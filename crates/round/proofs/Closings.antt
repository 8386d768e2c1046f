-- A stall is closed: none of its nodes is grounded, and each is settled with the cycle that it shows.
use Rattle.std.proofs.Common.{◌≡◌, ◌≢◌, ◌⊎◌, inl, inr, true, false, List, [], ◌∷◌, ◌++◌, length, map, Option, Some, None, refl, sym, ◌∙◌, ap, subst}
use Rattle.std.specs.Arc.{arc_value}
use Rattle.std.specs.List.{AllByRecursion}
use Rattle.engine_semantics.specs.Reply.{Reply}
use Rattle.engine_semantics.specs.Value.{Grounded, AllGrounded, IsUngrounded, First, at_head, further, Walk, stay, step, Cyclic, Settles, leaf, run, closed, In, first, after, IsMember, AllDiffer}
use Rattle.engine_semantics.specs.Value as value
use Rattle.engine_semantics.specs.Graph.{Record}
use Rattle.engine_semantics.specs.Choices.{Choice}
use Rattle.engine_semantics.specs.Journal.{RunIsJustified}
use Rattle.engine_semantics.proofs.Stall.{never, stops_after, walk_on}
use Rattle.engine_semantics.proofs.ClosedSets.{stops_map}
use Rattle.keys.specs.Cycles.{cycle}
use Rattle.keys.specs.Turns.{NoCycle}
use Rattle.keys.specs.declared.key.Key.{Key}
use Rattle.keys.specs.declared.value.Value.{Value}
use Rattle.node.specs.Batches.{entry_groups, keys_of, SetsAll}
use Rattle.node.specs.Graphs.{GraphView, record_at, present, IsTouched}
use Rattle.node.specs.Records.{items_of}
use Rattle.node.specs.Laws.{IsConsistentFor, BatchKeepsLawful}
use Rattle.node.specs.Writes.{settled_record}
use Rattle.node.specs.declared.entry.Entry.{Entry}
use Rattle.node.proofs.Lists.{some_is, none_some, true_false, in_split, in_left, in_right}
use Rattle.round_nodes.specs.Nodes.{Records, node_at, groups_of, IsOpen, IsUnsettled, IsPlain, Stands}
use Rattle.round_nodes.specs.Invariants.{IsNext, Past, IsSince, IsAfter, IsDoing, IsOpenTruly, IsRunOf, run_keys, IsLogged, AreBehind, AreClosedLast, TellsChange, IsTrueOf, IsTrueAtEnd}
use Rattle.round_nodes.specs.declared.run.Run.{Run}
use Rattle.round_nodes.specs.declared.table.Node.{Node}
use Rattle.round_nodes.specs.declared.table.Phase.{Phase}
use Rattle.round_nodes.specs.declared.table.Phase.TheVariants as phase
use Rattle.round_nodes.specs.declared.table.OpenNodes.{OpenNodes}
use Rattle.round_nodes.proofs.Counting.{decide_in}
use Rattle.round_nodes.proofs.Orders.{split_join}
use Rattle.round_nodes.proofs.Settlings.{now_is, clean_settles, member_clean, plain_grounded, cycle_ungrounded, in_map}
use Rattle.round_nodes.proofs.Wholes.{unsettled_not_clean}
use Rattle.round.specs.Closing.{HasTurnedBy, HasTurned, stop_at, HasTaken, IsIdle}
use Rattle.round_nodes.specs.Members.{plain_value}
use Rattle.round.specs.Moves.{IsInOrder}
use Rattle.round.specs.Showing.{Chain, Ends, Shows, IsStall, AreEntries}
use Rattle.round.specs.Showing as showing
use Rattle.round.specs.declared.closing.Closing.{Closing}
use Rattle.round.specs.declared.closing.Stall.{Stall}
use Rattle.round_nodes.proofs.Grouping.{clean_cycle, items_length}
use Rattle.round.proofs.Seeking.{stored_change}
use Rattle.round.proofs.Reaching.{AsksAfter, asks_last, check_asks}
use Rattle.round.proofs.Stalls.{ComesBy, IsStopped, stop_among, stopped, all_closed, has_stop, is_stall}
use Rattle.round.proofs.Walking.{chain_end}

-- one element has the key
same_by_key : {X : Type 0} (key : X → Key) (xs : List X) (x y : X) → AllDiffer (map key xs) → In x xs → In y xs → key x ≡ key y → x ≡ y
same_by_key {X} key [] x y d i j e = elim i [ ]
same_by_key {X} key (z ∷ xs) x y d i j e = go (λ a b. same_by_key key xs x y d.1 a b e) i refl j refl
  where
    apart : (ys : List X) → AllByRecursion (λ k. key z ≢ k) (map key ys) → (w : X) → In w ys → key z ≢ key w
    apart [] a w m = elim m [ ]
    apart (v ∷ ys) a w m = inner (λ h. apart ys a.1 w h) m refl
      where
        inner : (In w ys → key z ≢ key w) → {zs : List X} → In w zs → zs ≡ v ∷ ys → key z ≢ key w
        inner below (first {xs = us}) q = let p : w ≡ v = cc in λ f. a.0 (f ∙ ap key p)
        inner below (after {xs = us} h) q = let p : us ≡ ys = cc in below (subst (In w) p h)

    go : (In x xs → In y xs → x ≡ y) → {us vs : List X} → In x us → us ≡ z ∷ xs → In y vs → vs ≡ z ∷ xs → x ≡ y
    go below (first {xs = us}) p (first {xs = vs}) q = cc
    go below (first {xs = us}) p (after {xs = vs} h) q = let r : x ≡ z = cc in let s : vs ≡ xs = cc in absurd (apart xs d.0 y (subst (In y) s h) (ap key (sym r) ∙ e))
    go below (after {xs = us} h) p (first {xs = vs}) q = let r : y ≡ z = cc in let s : us ≡ xs = cc in absurd (apart xs d.0 x (subst (In x) s h) (ap key (sym r) ∙ sym e))
    go below (after {xs = us} h) p (after {xs = vs} g) q = let r : us ≡ xs = cc in let s : vs ≡ xs = cc in below (subst (In x) r h) (subst (In y) s g)

differ_join : (xs ys : List Key) → AllDiffer xs → AllDiffer ys → ((k : Key) → In k xs → In k ys → ⊥) → AllDiffer (xs ++ ys)
differ_join [] ys d f n = f
differ_join (x ∷ xs) ys d f n = (join xs d.0, differ_join xs ys d.1 f (λ k i. n k (after i)))
  where
    right : (zs : List Key) → ((k : Key) → In k zs → In k ys) → AllByRecursion (λ j. x ≢ j) zs
    right [] m = tt
    right (z ∷ zs) m = ((λ e. n x first (subst (λ k. In k ys) (sym e) (m z first))), right zs (λ k i. m k (after i)))

    join : (zs : List Key) → AllByRecursion (λ j. x ≢ j) zs → AllByRecursion (λ j. x ≢ j) (zs ++ ys)
    join [] a = right ys (λ k i. i)
    join (z ∷ zs) a = (a.0, join zs a.1)

map_join : {X Y : Type 0} (f : X → Y) (xs ys : List X) → map f (xs ++ ys) ≡ map f xs ++ map f ys
map_join f [] ys = refl
map_join f (x ∷ xs) ys = ap (λ zs. f x ∷ zs) (map_join f xs ys)

module _ (old : GraphView) (start later : OpenNodes) (stall : Stall) (w : IsInOrder old start) (idle : IsIdle start)
    (t : HasTaken (record_at old) old.version start later stall) (none : (k : Key) → node_at later.nodes k ≡ None)
    (next : Key → List Value → Reply Key Value) (read : Key → Option Value) (laws : IsNext next) (past : Past read) (cs : List (Choice Key)) (h : IsTrueOf next read past cs old start.nodes start.runs.items) where
  abbrev records : Records
  records = record_at old

  abbrev stopped_of : (c : Closing) → In c stall.closing.items → IsStopped records start.nodes stall.stops c
  stopped_of c i = stopped old start later stall old.version w idle t none c i

  opened : (c : Closing) (i : In c stall.closing.items) → IsOpenTruly next read past cs old c.key (stopped_of c i).node
  opened c i = h.opened c.key (stopped_of c i).node (stopped_of c i).there

  -- its turns come to the group that it waits for
  comes : (c : Closing) (i : In c stall.closing.items) → AsksAfter next read laws past cs c.key [] (stopped_of c i).passed (stopped_of c i).group
  comes c i = go s.node.phase (opened c i).doing s.come
    where
      s : IsStopped records start.nodes stall.stops c
      s = stopped_of c i

      go : (p : Phase) → IsDoing next read past cs old c.key (groups_of s.node) p → ComesBy records c.key (groups_of s.node) p s.passed s.group → AsksAfter next read laws past cs c.key [] s.passed s.group
      go (phase.Checking at) d b = check_asks next read laws past cs old start.nodes start.runs.items h c.key b.0 b.2 s.passed b.1 s.group b.3 b.4
      go phase.Running d b = asks_last next read laws past cs d.asks s.passed s.group b
      go phase.Out d b = absurd b

  -- open, or known not to be grounded
  abbrev Lost : Key → Type 0
  Lost k = IsOpen start.nodes k ⊎ IsUngrounded next read k

  grounded_of : (j : Key) → IsPlain records j → (v : Value) × Grounded next read j v
  grounded_of j p = (p.0.value, plain_grounded next read laws past old h.after j p.0 p.1 p.2 p.3)

  first_in : (before rest : List Key) (j : Key) → ((k : Key) → In k before → IsPlain records k) → Lost j → First next read Lost (before ++ j ∷ rest) j
  first_in [] rest j p l = at_head l
  first_in (k ∷ before) rest j p l = further (grounded_of k (p k first)).1 (first_in before rest j (λ x m. p x (after m)) l)

  lost_stop : (c : Closing) (i : In c stall.closing.items) → Lost (stopped_of c i).stop
  lost_stop c i = elim (s.wanted s.stop (stop_among records s.group s.stop s.is_stop)) [
    | inl o ↦ inl o
    | inr l ↦ let q = clean_cycle records s.stop l s.is_stop.4 in inr (cycle_ungrounded next read laws past old h.after s.stop q.0 q.1 q.2 q.3)
  ]
    where
      s : IsStopped records start.nodes stall.stops c
      s = stopped_of c i

  stops_lost : (c : Closing) (i : In c stall.closing.items) → value.Stops next read Lost c.key [] ((stopped_of c i).passed ++ (stopped_of c i).group ∷ []) (stopped_of c i).stop
  stops_lost c i = let s = stopped_of c i in let b = comes c i in
      stops_after next read b.1 b.2 (subst (λ g. First next read Lost g s.stop) (sym s.is_stop.2) (first_in s.is_stop.0 s.is_stop.1 s.stop s.is_stop.3 (lost_stop c i)))

  each_stops : (k : Key) → IsOpen start.nodes k → (gs : List (List Key)) × (j : Key) × value.Stops next read Lost k [] gs j
  each_stops k o = let c = all_closed old start later stall old.version w idle t none k o in
      subst (λ x. (gs : List (List Key)) × (j : Key) × value.Stops next read Lost x [] gs j) c.2 (_, _, stops_lost c.0 c.1)

  open_no_leaf : (k : Key) → IsOpen start.nodes k → read k ≡ None
  open_no_leaf k o = (h.opened k o.0 o.1).no_leaf

  -- no open node is grounded
  pub open_ungrounded : (k : Key) → IsOpen start.nodes k → IsUngrounded next read k
  open_ungrounded k o v g = never next read (IsOpen start.nodes) open_no_leaf each_stops g o

  closed_no_leaf : (c : Closing) → In c stall.closing.items → read c.key ≡ None
  closed_no_leaf c i = (opened c i).no_leaf

  closed_ungrounded : (c : Closing) → In c stall.closing.items → IsUngrounded next read c.key
  closed_ungrounded c i = open_ungrounded c.key ((stopped_of c i).node, (stopped_of c i).there)

  closed_stops : (c : Closing) (i : In c stall.closing.items) → value.Stops next read (IsUngrounded next read) c.key [] (items_of c.groups.items) (stopped_of c i).stop
  closed_stops c i = subst (λ gs. value.Stops next read (IsUngrounded next read) c.key [] gs (stopped_of c i).stop) (sym (stopped_of c i).groups)
      (stops_map next read (λ k l. elim l [ inl o ↦ open_ungrounded k o | inr u ↦ u ]) (stops_lost c i))

  -- a chain of stops is a walk
  walk_of : {k j : Key} {path : List Key} → Chain (stop_at stall.stops) k path j → Walk next read k path j
  walk_of showing.stay = stay
  walk_of (showing.step {k = k} {i = i} e c) =
      let x = has_stop old start later stall old.version w idle t none k i e in
      let same : (stopped_of x.0 x.1).stop ≡ i = some_is (sym (stopped_of x.0 x.1).stops_at ∙ ap (stop_at stall.stops) x.2 ∙ e) in
      step (subst (λ y. read y ≡ None) x.2 (closed_no_leaf x.0 x.1))
      (subst (λ y. value.Stops next read (IsUngrounded next read) k [] (items_of x.0.groups.items) y) same (subst (λ y. value.Stops next read (IsUngrounded next read) y [] (items_of x.0.groups.items) (stopped_of x.0 x.1).stop) x.2 (closed_stops x.0 x.1)))
      (walk_of c)

  -- what it shows is the value of the cycle to which its walk comes
  pub shows_cyclic : (k : Key) (v : Value) → ((j : Key) × (stop_at stall.stops k ≡ Some j)) → Shows (stop_at stall.stops) records k v → Cyclic next read cycle k v
  shows_cyclic k v has s = go s.ends
    where
      joins : (r : Record Key Value) → records s.m ≡ Some r → r.dirty ≡ false → (NoCycle r.value → ⊥) → v ≡ r.value → Cyclic next read cycle k v
      joins r e d n q = inner (clean_settles next read laws past old h.after s.m r e d) q
        where
          inner : {gs : List (List Key)} {x : Value} → Settles next read cycle s.m gs x → v ≡ x → Cyclic next read cycle k v
          inner (leaf f) p = absurd (cycle_ungrounded next read laws past old h.after s.m r e d n _ (value.is_leaf f))
          inner (run f u) p = absurd (cycle_ungrounded next read laws past old h.after s.m r e d n _ (value.has_run f u))
          inner (closed f u c) p = record {
            before = s.before ++ c.before;
            m = c.m;
            rest = c.rest;
            comes = walk_on next read (walk_of s.comes) c.comes;
            returns = c.returns;
            once = c.once;
            value = p ∙ c.value;
          }

      go : Ends (stop_at stall.stops) records s.m v → Cyclic next read cycle k v
      go (inl e) = record { before = s.before; m = s.m; rest = e.0; comes = walk_of s.comes; returns = walk_of e.1; once = e.2; value = e.3 }
      go (inr e) = elim (chain_end (stop_at stall.stops) s.comes) [
        | inl q ↦ let u = is_stall old start later stall old.version w idle t none k has.0 has.1 in absurd (unsettled_not_clean (records s.m) e.0 (subst (IsUnsettled records) q.1 u.0) e.1 e.2)
        | inr q ↦
            let x = has_stop old start later stall old.version w idle t none q.0 s.m q.1 in
            let same : (stopped_of x.0 x.1).stop ≡ s.m = some_is (sym (stopped_of x.0 x.1).stops_at ∙ ap (stop_at stall.stops) x.2 ∙ q.1) in
            let n = clean_cycle records s.m (e.0, e.1, e.2) (subst (λ y. plain_value (records y) ≡ None) same (stopped_of x.0 x.1).is_stop.4) in
            joins e.0 e.1 e.2 (subst (λ (r : Record Key Value). NoCycle r.value → ⊥) (some_is (sym n.1 ∙ e.1)) n.3) e.3
      ]

  -- the entries are stored
  module _ (new : GraphView) (entries : List Entry) (a : AreEntries (stop_at stall.stops) records stall.closing.items entries)
      (same_version : new.version ≡ old.version) (sets : SetsAll records (record_at new) entries old.version) (keeps : BatchKeepsLawful old new entries) where
    abbrev closing_of : (e : Entry) → In e entries → Closing
    closing_of e i = (a.each e i).0

    abbrev closing_in : (e : Entry) (i : In e entries) → In (closing_of e i) stall.closing.items
    closing_in e i = (a.each e i).1

    key_is : (e : Entry) (i : In e entries) → e.key ≡ (closing_of e i).key
    key_is e i = (a.each e i).2

    its_open : (e : Entry) (i : In e entries) → node_at start.nodes e.key ≡ Some (stopped_of (closing_of e i) (closing_in e i)).node
    its_open e i = ap (node_at start.nodes) (key_is e i) ∙ (stopped_of (closing_of e i) (closing_in e i)).there

    truly : (e : Entry) (i : In e entries) → IsOpenTruly next read past cs old e.key (stopped_of (closing_of e i) (closing_in e i)).node
    truly e i = h.opened e.key (stopped_of (closing_of e i) (closing_in e i)).node (its_open e i)

    settles : (e : Entry) → In e entries → Settles next read cycle e.key (entry_groups e) (arc_value e.value)
    settles e i =
        let x = a.each e i in
        let s = stopped_of x.0 x.1 in
        subst (λ k. Settles next read cycle k (entry_groups e) (arc_value e.value)) (sym x.2) (subst (λ gs. Settles next read cycle x.0.key gs (arc_value e.value)) (sym x.3)
        (closed (closed_no_leaf x.0 x.1) (closed_stops x.0 x.1) (shows_cyclic x.0.key (arc_value e.value) (s.stop, s.stops_at) (subst (λ k. Shows (stop_at stall.stops) records k (arc_value e.value)) x.2 x.4))))

    reads_now : past.reads old.version ≡ read
    reads_now = ap past.reads h.after.version ∙ now_is next read laws past

    lawful : IsConsistentFor next past.reads past.edits new
    lawful = keeps next past.reads past.edits h.after.lawful (λ e i. subst (λ f. Settles next f cycle e.key (entry_groups e) (arc_value e.value)) (sym reads_now) (settles e i))

    entry_of : (k : Key) → In k (keys_of entries) → (e : Entry) × In e entries × (e.key ≡ k)
    entry_of k i = in_map (λ (e : Entry). e.key) entries i

    unsettled_entry : (e : Entry) → In e entries → IsUnsettled records e.key
    unsettled_entry e i = (w.holds e.key (stopped_of (closing_of e i) (closing_in e i)).node (its_open e i)).0

    not_entry : (j : Key) (s : Record Key Value) → records j ≡ Some s → s.dirty ≡ false → In j (keys_of entries) → ⊥
    not_entry j s e d i = let x = entry_of j i in unsettled_not_clean (records j) s (subst (IsUnsettled records) x.2 (unsettled_entry x.0 x.1)) e d

    clean_stays : (j : Key) (s : Record Key Value) → records j ≡ Some s → s.dirty ≡ false → record_at new j ≡ Some s
    clean_stays j s e d = sets.others j (not_entry j s e d) ∙ e

    abbrev record_of : Entry → Record Key Value
    record_of e = settled_record (records e.key) (arc_value e.value) (entry_groups e) old.version

    pub closed_after : IsAfter next read past new
    closed_after = record {
      version = same_version ∙ h.after.version;
      lawful = lawful;
      since = λ j. elim (decide_in j (keys_of entries)) [
        | inl i ↦ let x = entry_of j i in subst (IsSince next read past new) x.2
            (inr (record_of x.0, sets.there x.0 x.1, refl, h.after.version, ap (λ o. present o) (sym (truly x.0 x.1).same) ∙ unsettled_entry x.0 x.1, (truly x.0 x.1).reached))
        | inr n ↦ elim (h.after.since j) [
          | inl e ↦ inl (sets.others j n ∙ e)
          | inr s ↦ inr (s.0, sets.others j n ∙ s.1, s.2, s.3, s.4, s.5)
        ]
      ];
    }

    -- a closed node that made turns was justified to
    justified_by : (k : Key) (n : Node) → IsOpenTruly next read past cs old k n → HasTurned n true → RunIsJustified next cycle past.reads (λ u j. IsTouched (past.edits u) j) past.entry.version (record_at past.entry k)
    justified_by k n o turned = go n.phase turned o.doing
      where
        go : (p : Phase) → HasTurnedBy p true → IsDoing next read past cs old k (groups_of n) p → RunIsJustified next cycle past.reads (λ u j. IsTouched (past.edits u) j) past.entry.version (record_at past.entry k)
        go (phase.Checking at) q d = absurd (true_false refl q)
        go phase.Running q d = d.justified
        go phase.Out q d = d.justified

    run_stays : (x : Run) → IsRunOf next read past old x → IsRunOf next read past new x
    run_stays x o = record { of_key = o.of_key; recorded = clean_stays x.key o.of_key o.recorded o.clean; clean = o.clean; version = o.version; item = o.item }

    -- the entry of a closed node
    its_entry : (c : Closing) → In c stall.closing.items → (e : Entry) × In e entries × (e.key ≡ c.key) × (entry_groups e ≡ items_of c.groups.items)
    its_entry c i =
        let x = entry_of c.key (a.has c i) in
        let y = a.each x.0 x.1 in
        let same : y.0 ≡ c = same_by_key (λ (z : Closing). z.key) stall.closing.items y.0 c t.differ y.1 i (sym y.2 ∙ x.2) in
        (x.0, x.1, x.2, y.3 ∙ ap (λ (z : Closing). items_of z.groups.items) same)

    added_run : (x : Run) → In x t.added → IsRunOf next read past new x
    added_run x i =
        let r = t.added_each x i in
        let e = its_entry r.closed r.among in
        let key : e.0.key ≡ x.key = e.2 ∙ sym r.same_key in
        record {
          of_key = record_of e.0;
          recorded = ap (record_at new) (sym key) ∙ sets.there e.0 e.1;
          clean = refl;
          version = r.now ∙ h.after.version;
          item = inr (
            ap read r.same_key ∙ closed_no_leaf r.closed r.among,
            subst (λ k. RunIsJustified next cycle past.reads (λ u j. IsTouched (past.edits u) j) past.entry.version (record_at past.entry k)) (sym r.same_key)
                (justified_by r.closed.key (stopped_of r.closed r.among).node (opened r.closed r.among) (r.turned (stopped_of r.closed r.among).node (stopped_of r.closed r.among).there)),
            inr (subst (IsUngrounded next read) (sym r.same_key) (closed_ungrounded r.closed r.among), r.turns ∙ sym (items_length r.closed.groups.items) ∙ ap (λ (gs : List (List Key)). length gs) (sym e.3)),
          );
        }

    abbrev all_runs : List Run
    all_runs = start.runs.items ++ t.added

    keys_joined : run_keys next read past all_runs ≡ run_keys next read past start.runs.items ++ run_keys next read past t.added
    keys_joined = map_join (λ (x : Run). x.key) start.runs.items t.added

    runs_apart : (k : Key) → In k (run_keys next read past start.runs.items) → In k (run_keys next read past t.added) → ⊥
    runs_apart k i j =
        let x = in_map (λ (z : Run). z.key) start.runs.items i in
        let o = h.ran x.0 x.1 in
        let y = in_map (λ (z : Run). z.key) t.added j in
        let r = t.added_each y.0 y.1 in
        not_entry k o.of_key (ap records (sym x.2) ∙ o.recorded) o.clean (subst (λ z. In z (keys_of entries)) (sym r.same_key ∙ y.2) (a.has r.closed r.among))

    told_more : (j : Key) (r : Record Key Value) → IsLogged next read past start.runs.items j r → IsLogged next read past all_runs j r
    told_more j r (inl i) = inl (subst (In j) (sym keys_joined) (in_left (run_keys next read past t.added) i))
    told_more j r (inr o) = inr o

    told_entry : (e : Entry) (i : In e entries) (r : Record Key Value) → IsLogged next read past all_runs e.key r
    told_entry e i r = go n.phase refl (w.holds e.key n (its_open e i)).1
      where
        n : Node
        n = (stopped_of (closing_of e i) (closing_in e i)).node

        ungrounded_entry : IsUngrounded next read e.key
        ungrounded_entry = subst (IsUngrounded next read) (sym (key_is e i)) (closed_ungrounded (closing_of e i) (closing_in e i))

        has_run : HasTurned n true → IsLogged next read past all_runs e.key r
        has_run q = inl (subst (In e.key) (sym keys_joined) (in_right (run_keys next read past start.runs.items)
            (subst (λ k. In k (run_keys next read past t.added)) (sym (key_is e i)) (t.added_all (closing_of e i) (closing_in e i) n (stopped_of (closing_of e i) (closing_in e i)).there q))))

        go : (p : Phase) → n.phase ≡ p → Stands records e.key (groups_of n) p → IsLogged next read past all_runs e.key r
        go (phase.Checking at) q s = inr (s.0, sym (truly e i).same ∙ s.1, inr ungrounded_entry, λ v l. absurd (none_some (sym (truly e i).no_leaf ∙ l)))
        go phase.Running q s = has_run (subst (λ p. HasTurnedBy p true) (sym q) refl)
        go phase.Out q s = has_run (subst (λ p. HasTurnedBy p true) (sym q) refl)

    start_place : (before rest : List Run) (x : Run) → start.runs.items ≡ before ++ x ∷ rest → In x start.runs.items
    start_place before rest x e = subst (In x) (sym e) (in_right before first)

    added_place : (before rest : List Run) (x : Run) → t.added ≡ before ++ x ∷ rest → In x t.added
    added_place before rest x e = subst (In x) (sym e) (in_right before first)

    -- a closed node that made turns is not grounded
    added_lost : (x : Run) → In x t.added → IsUngrounded next read x.key
    added_lost x i = let r = t.added_each x i in subst (IsUngrounded next read) (sym r.same_key) (closed_ungrounded r.closed r.among)

    key_lost : (j : Key) → In j (run_keys next read past t.added) → IsUngrounded next read j
    key_lost j i = let x = in_map (λ (z : Run). z.key) t.added i in subst (IsUngrounded next read) x.2 (added_lost x.0 x.1)

    -- a key that was settled is none of those that are closed
    not_added : (j : Key) (s : Record Key Value) → records j ≡ Some s → s.dirty ≡ false → In j (run_keys next read past t.added) → ⊥
    not_added j s e d i =
        let y = in_map (λ (z : Run). z.key) t.added i in
        let r = t.added_each y.0 y.1 in
        not_entry j s e d (subst (λ z. In z (keys_of entries)) (sym r.same_key ∙ y.2) (a.has r.closed r.among))

    closed_behind : AreBehind next read past new all_runs
    closed_behind before rest x e r f j m i lost = elim (split_join start.runs.items t.added before rest x e) [
      | inl l ↦
          let at = start_place before l.0 x l.2 in
          let o = h.ran x at in
          let same : o.of_key ≡ r = some_is (sym (clean_stays x.key o.of_key o.recorded o.clean) ∙ f) in
          let was : records x.key ≡ Some r = o.recorded ∙ ap (λ (z : Record Key Value). Some z) same in
          let c = member_clean next read laws past old h.after x.key r was (ap (λ (z : Record Key Value). z.dirty) (sym same) ∙ o.clean) j m in
          h.behind before l.0 x l.2 r was j m (elim (in_split (subst (In j) keys_joined i) (run_keys next read past start.runs.items) (run_keys next read past t.added) refl) [
            | inl b ↦ b
            | inr b ↦ absurd (not_added j c.0 c.1 c.2 b)
          ]) lost
      | inr l ↦ elim (in_split (subst (In j) keys_joined i) (run_keys next read past start.runs.items) (run_keys next read past t.added) refl) [
        | inl b ↦ subst (λ (zs : List Run). In j (run_keys next read past zs)) (sym l.1) (subst (In j) (sym (map_join (λ (z : Run). z.key) start.runs.items l.0)) (in_left (run_keys next read past l.0) b))
        | inr b ↦ absurd (lost (added_lost x (added_place l.0 rest x l.2)) (key_lost j b))
      ]
    ]

    closed_last : AreClosedLast next read past all_runs
    closed_last before rest x e u y i = elim (split_join start.runs.items t.added before rest x e) [
      | inl l ↦ let g = h.grounded x (start_place before l.0 x l.2) in absurd (u g.0 g.1)
      | inr l ↦ (added_lost y (subst (In y) (sym l.2) (in_right l.0 (after i))), t.ascending l.0 rest x l.2 y i)
    ]

    -- each record tells whether its value changed
    closed_change : (k : Key) → TellsChange next read past new k
    closed_change k = elim (decide_in k (keys_of entries)) [
      | inl i ↦ let x = entry_of k i in subst (TellsChange next read past new) x.2
          (stored_change next read laws past cs old start.nodes start.runs.items h new x.0.key (arc_value x.0.value) (entry_groups x.0) (unsettled_entry x.0 x.1) (sets.there x.0 x.1))
      | inr n ↦ elim (h.after.since k) [
        | inl e ↦ λ r s f g.
            let same : s ≡ r = some_is (sym g ∙ (sym e ∙ (sym (sets.others k n) ∙ f))) in
            inl (ap (λ (z : Record Key Value). z.value) same, ap (λ (z : Record Key Value). z.changed_at) (sym same))
        | inr c ↦ λ r s f g. (h.settled k c.4 (c.0, c.1, c.2)).change r s (sym (sets.others k n) ∙ f) g
      ]
    ]

    pub closed_end : IsTrueAtEnd next read past new later.runs.items
    closed_end = subst (λ (x : List Run). IsTrueAtEnd next read past new x) (sym t.runs) (record {
      after = closed_after;
      ran = λ x i. elim (in_split i start.runs.items t.added refl) [ inl j ↦ run_stays x (h.ran x j) | inr j ↦ added_run x j ];
      differ = subst AllDiffer (sym keys_joined) (differ_join (run_keys next read past start.runs.items) (run_keys next read past t.added) h.differ t.added_differ runs_apart);
      told = λ j r e. elim (decide_in j (keys_of entries)) [
        | inl i ↦ let x = entry_of j i in subst (λ k. IsLogged next read past all_runs k r) x.2 (told_entry x.0 x.1 r)
        | inr n ↦ told_more j r (h.told j r (sym (sets.others j n) ∙ e))
      ];
      behind = closed_behind;
      closed = closed_last;
      change = closed_change;
    })
