-- The graph and the requests so far: what one more request does.
use Rattle.std.proofs.Common.{◌≡◌, ◌⊎◌, inl, inr, ℕ, ◌<◌, ◌≤◌, false, cond, List, [], ◌∷◌, ◌++◌, Option, Some, None, refl, suc, length, sym, ◌∙◌, ap, subst, arith}
use Rattle.engine_semantics.specs.Value.{IsUngrounded, leaf as leaf_settles, run as run_settles, is_leaf, has_run, Grounded, HasValue, In, first, after, IsMember, Settles}
use Rattle.engine_semantics.specs.Graph.{Record, Differs}
use Rattle.engine_semantics.specs.Journal.{RunIsJustified, never_settled, dependency_differs, ReadIsJustified, never_read, edited}
use Rattle.engine_semantics.specs.Reachability.{Reached, root, member}
use Rattle.engine_semantics.proofs.Touch.{not_true}
use Rattle.filetree.specs.Files.{Files}
use Rattle.functions.specs.Next.{next}
use Rattle.keys.proofs.LeafReads.{leaf_stays}
use Rattle.keys.specs.Cycles.{cycle}
use Rattle.keys.specs.declared.key.Key.{Key}
use Rattle.keys.specs.declared.value.Value.{Value}
use Rattle.node.specs.Graphs.{GraphView, record_at, IsTouched, present}
use Rattle.node.specs.Laws.{IsConsistentFor}
use Rattle.node.proofs.Lists.{some_is, none_some, true_false}
use Rattle.round_nodes.specs.Invariants.{Past, IsRunOf}
use Rattle.round_nodes.specs.declared.run.Run.{Run}
use Rattle.round.specs.Call.{IsCall}
use Rattle.loader_answers.specs.Journal.{Evaluation, leaves, IsSettledBy, IsLastSettled, by_newest, by_earlier, MayRun, first_run, run_again, MayBeRead, first_read, read_again, TakesTurns, IsItemOf, MissesNone, AreInOrder, AreItemsOf}
use Rattle.loader_answers.specs.GraphLinks.{Stays, IsLinked}
use Rattle.loader.proofs.Groups.{asked_recorded, recorded_asked}
use Rattle.loader_answers.proofs.Linking.{same_at, stays_now, read_plain}

-- a key with a clean record is settled
settled_apart : {o : Option (Record Key Value)} {s : Record Key Value} → o ≡ Some s → s.dirty ≡ false → present o ≡ None → ⊥
settled_apart {s = s} e d n = none_some (sym n ∙ (ap present e ∙ ap (λ b. cond b None (Some s.value)) d))

either : {X : Type 0} {x y : X} {ys : List X} → In x (y ∷ ys) → (x ≡ y) ⊎ In x ys
either first = inl refl
either (after i) = inr i

in_middle : (before : List Run) (run : Run) (rest : List Run) → In run (before ++ run ∷ rest)
in_middle [] run rest = first
in_middle (x ∷ before) run rest = after (in_middle before run rest)

split : (a b : ℕ) → (a ≤ b) ⊎ (b < a)
split a b = grind arith

module _ (files : ℕ → Files) (paths : ℕ → List (List ℕ)) where
  abbrev at : ℕ → Key → Option Value
  at = leaves files paths

  abbrev Touched : ℕ → Key → Type 0
  Touched u k = IsTouched (paths u) k

  -- the history of a call over the graph
  abbrev pub past_of : (graph : GraphView) → List Key → Past (at graph.version)
  past_of graph roots = record {
    entry = graph;
    roots = roots;
    reads = at;
    edits = paths;
    at_present = λ k. refl;
    leaf_stays = λ u w k v e. leaf_stays (files u) (files w) k v e;
    leaf_plain = λ u k v e. read_plain (files u) k v e;
  }

  -- two values from an earlier version on, where the first of them lasted until u
  point : (j : Key) (s u now : ℕ) (x : Value) → ((w : ℕ) → s ≤ w → w ≤ u → HasValue next (at w) cycle j x) → s ≤ u → u ≤ now
      → (a : ℕ) (v : Value) → s ≤ a → a ≤ now → HasValue next (at a) cycle j v → (b : ℕ) × (u ≤ b) × (b ≤ now) × HasValue next (at b) cycle j v
  point j s u now x same su un a v sa an h = go (split a u)
    where
      go : (a ≤ u) ⊎ (u < a) → (b : ℕ) × (u ≤ b) × (b ≤ now) × HasValue next (at b) cycle j v
      go (inl l) = (u, omega arith, un, subst (λ y. HasValue next (at u) cycle j y) (same_at files paths a (same a sa l) h) (same u su (omega arith)))
      go (inr l) = (a, omega arith, an, h)

  differs_later : (j : Key) (s u now : ℕ) (x : Value) → ((w : ℕ) → s ≤ w → w ≤ u → HasValue next (at w) cycle j x) → s ≤ u → u ≤ now → Differs next cycle at j s now → Differs next cycle at j u now
  differs_later j s u now x same su un d =
      let p = point j s u now x same su un d.a d.v d.a_within.0 d.a_within.1 d.at_a in
      let q = point j s u now x same su un d.b d.w d.b_within.0 d.b_within.1 d.at_b in
      record { a = p.0; b = q.0; a_within = (p.1, p.2); b_within = (q.1, q.2); v = d.v; w = d.w; at_a = p.3; at_b = q.3; apart = d.apart }

  -- a key that was last settled at a version was settled by a request of it
  last_request : {k : Key} {u : ℕ} {earlier : List Evaluation} → IsLastSettled files paths k u earlier → (q : Evaluation) × In q earlier × (q.version ≡ u) × IsSettledBy files paths k q
  last_request (by_newest {evaluation = q} s e) = (q, first, e, s)
  last_request (by_earlier n l) = let r = last_request l in (r.0, after r.1, r.2, r.3)

  module _ (old new : GraphView) (roots : List Key) (earlier : List Evaluation) (linked : IsLinked files paths old earlier) (runs : List Run)
      (call : IsCall next (at old.version) (past_of old roots) new runs) where
    abbrev request : Evaluation
    request = record { version = old.version; roots = roots }

    law : IsConsistentFor next at paths new
    law = call.after.lawful

    version : new.version ≡ old.version
    version = call.after.version

    -- what an evaluation of the roots reaches is settled
    reached_clean : {k : Key} → Reached next cycle (at old.version) roots k → (r : Record Key Value) × (record_at new k ≡ Some r) × (r.dirty ≡ false)
    reached_clean (root i) = let a = call.answered _ i in (a.0, a.1, a.2)
    reached_clean (member {k = k} {j = j} {group = g} h a i) =
        let c = reached_clean h in
        let s = subst (λ (u : ℕ). Settles next (at u) cycle k c.0.groups c.0.value) version ((law.each k c.0 c.1).clean c.2) in
        let dep = (law.each k c.0 c.1).depends j (g, asked_recorded next cycle (at old.version) s a, i) in
        (dep.of_j, dep.recorded, not_true dep.of_j.dirty (λ t. true_false (dep.dirty_above t) c.2))

    new_clean : (k : Key) (r : Record Key Value) → record_at new k ≡ Some r → r.dirty ≡ false → (w : ℕ) → r.settled_at ≤ w → w ≤ new.version → Settles next (at w) cycle k r.groups r.value
    new_clean k r e d w lo hi = elim (call.after.since k) [
      | inl q ↦ linked.clean k r (sym q ∙ e) d w lo (let v = version in omega arith)
      | inr p ↦
          let same : p.0 ≡ r = some_is (sym p.1 ∙ e) in
          let s : r.settled_at ≡ old.version = ap (λ (x : Record Key Value). x.settled_at) (sym same) ∙ p.3 in
          let v = version in
          let h : new.version ≡ w = omega arith in
          subst (λ (u : ℕ). Settles next (at u) cycle k r.groups r.value) h ((law.each k r e).clean d)
    ]

    new_members : (k j : Key) (r s : Record Key Value) → record_at new k ≡ Some r → r.dirty ≡ false → IsMember j r.groups → record_at new j ≡ Some s → s.settled_at ≤ r.settled_at
    new_members k j r s e d i f = elim (call.after.since k) [
      | inl q ↦
          let was = sym q ∙ e in
          let dep = (linked.lawful.each k r was).depends j i in
          let c : dep.of_j.dirty ≡ false = not_true dep.of_j.dirty (λ t. true_false (dep.dirty_above t) d) in
          elim (call.after.since j) [
            | inl p ↦ linked.members k j r s was d i (sym p ∙ f)
            | inr p ↦ absurd (settled_apart dep.recorded c p.4)
          ]
      | inr p ↦
          let same : p.0 ≡ r = some_is (sym p.1 ∙ e) in
          let at_now : r.settled_at ≡ old.version = ap (λ (x : Record Key Value). x.settled_at) (sym same) ∙ p.3 in
          let v = version in
          let h = (law.each j s f).past.1 in
          omega arith
    ]

    -- one more request
    pub linked_call : IsLinked files paths new (request ∷ earlier)
    linked_call = record {
      lawful = law;
      past = λ q i. elim (either i) [ inl e ↦ (let h : q.version ≡ old.version = ap (λ (x : Evaluation). x.version) e in let v = version in omega arith) | inr b ↦ (let h = linked.past q b in let v = version in omega arith) ];
      back = λ k r e. elim (call.after.since k) [
        | inl q ↦ (let b = linked.back k r (sym q ∙ e) in (b.0, after b.1, b.2))
        | inr p ↦ (request, first, p.5)
      ];
      there = λ q k i s. elim (either i) [
        | inl e ↦ (let c = reached_clean (subst (λ (x : Evaluation). IsSettledBy files paths k x) e s) in (c.0, c.1))
        | inr b ↦ (let r = linked.there q k b s in elim (call.after.since k) [ inl p ↦ (r.0, p ∙ r.1) | inr p ↦ (p.0, p.1) ])
      ];
      last = λ k u r l e. last k u r e l;
      clean = new_clean;
      members = new_members;
    }
      where
        stays : (k : Key) (r : Record Key Value) → record_at new k ≡ Some r → r.dirty ≡ false → Stays files paths k r new.version
        stays k r e d = record {
          early = (law.each k r e).past.1;
          settles = new_clean k r e d;
          members = λ j m.
              let dep = (law.each k r e).depends j m in
              let c : dep.of_j.dirty ≡ false = not_true dep.of_j.dirty (λ t. true_false (dep.dirty_above t) d) in
              let older : dep.of_j.settled_at ≤ r.settled_at = new_members k j r dep.of_j e d m dep.recorded in
              (dep.of_j.value, λ w lo hi. (dep.of_j.groups, new_clean j dep.of_j dep.recorded c w (omega arith) hi));
          untouched = λ x f w lo hi t. true_false (law.leaf_clean k r x e f w lo hi t) d;
        }

        last : (k : Key) (u : ℕ) (r : Record Key Value) → record_at new k ≡ Some r → IsLastSettled files paths k u (request ∷ earlier) → Stays files paths k r u
        last k u r e (by_newest s v) =
            let c = reached_clean s in
            let same : c.0 ≡ r = some_is (sym c.1 ∙ e) in
            let d : r.dirty ≡ false = ap (λ (x : Record Key Value). x.dirty) (sym same) ∙ c.2 in
            subst (λ (n : ℕ). Stays files paths k r n) (version ∙ v) (stays k r e d)
        last k u r e (by_earlier n l) = elim (call.after.since k) [ inl q ↦ linked.last k u r l (sym q ∙ e) | inr p ↦ absurd (n p.5) ]

    -- the justification of an item
    may_run : (k : Key) (o : Option (Record Key Value)) → record_at old k ≡ o → RunIsJustified next cycle at Touched old.version o → MayRun files paths earlier k old.version
    may_run k o e never_settled = first_run (λ q i s. let r = linked.there q k i s in none_some (sym e ∙ r.1))
    may_run k o e (dependency_differs {r = r} {j = j} m d) = run_again (linked.back k r e) (λ u l.
        let s = linked.last k u r l e in
        let asked = recorded_asked next cycle (at u) (s.settles u s.early (omega arith)) m.1 in
        let q = last_request l in
        let h = linked.past q.0 q.1 in
        let v = q.2 in
        let x = s.members j m in
        (j, (m.0, asked, m.2), differs_later j r.settled_at u old.version x.0 x.1 s.early (omega arith) d))

    may_read : (k : Key) (x : Value) → at old.version k ≡ Some x → (o : Option (Record Key Value)) → record_at old k ≡ o → ReadIsJustified next cycle at Touched k old.version o → MayBeRead files paths earlier k old.version
    may_read k x leaf o e never_read = first_read (λ q i s. let r = linked.there q k i s in none_some (sym e ∙ r.1))
    may_read k x leaf o e (edited {r = r} {u = w} late early t) = read_again (linked.back k r e) (λ u l.
        let s = linked.last k u r l e in
        let y = leaf_stays (files old.version) (files u) k x leaf in
        elim (split w u) [
          | inl h ↦ absurd (s.untouched y.0 y.1 w late h t)
          | inr h ↦ (w, h, early, t)
        ])

    -- the key of an item was not settled at the entry
    not_kept : (run : Run) (p : IsRunOf next (at old.version) (past_of old roots) new run) → record_at old run.key ≡ Some p.of_key → ⊥
    not_kept run p e = elim p.item [
      | inl l ↦ read_dirty l.0 (record_at old run.key) e l.2
      | inr n ↦ run_dirty (record_at old run.key) e n.1
    ]
      where
        s : Stays files paths run.key p.of_key old.version
        s = stays_now files paths old earlier linked run.key p.of_key e p.clean

        read_dirty : {x : Value} → at old.version run.key ≡ Some x → (o : Option (Record Key Value)) → o ≡ Some p.of_key → ReadIsJustified next cycle at Touched run.key old.version o → ⊥
        read_dirty leaf o f never_read = none_some f
        read_dirty {x = x} leaf o f (edited {r = r} {u = w} late early t) =
            let same : r ≡ p.of_key = some_is f in
            let h : r.settled_at ≡ p.of_key.settled_at = ap (λ (y : Record Key Value). y.settled_at) same in
            s.untouched x leaf w (omega arith) early t

        run_dirty : (o : Option (Record Key Value)) → o ≡ Some p.of_key → RunIsJustified next cycle at Touched old.version o → ⊥
        run_dirty o f never_settled = none_some f
        run_dirty o f (dependency_differs {r = r} {j = j} m d) =
            let same : r ≡ p.of_key = some_is f in
            let h : r.settled_at ≡ p.of_key.settled_at = ap (λ (y : Record Key Value). y.settled_at) same in
            let x = s.members j (subst (λ (y : Record Key Value). IsMember j y.groups) same m) in
            d.apart (sym (same_at files paths d.a (x.1 d.a (let l = d.a_within.0 in omega arith) d.a_within.1) d.at_a)
            ∙ same_at files paths d.b (x.1 d.b (let l = d.b_within.0 in omega arith) d.b_within.1) d.at_b)

    -- it is settled now
    pub item_now : (run : Run) → In run runs → Reached next cycle (at old.version) roots run.key × ((r : Record Key Value) × (record_at new run.key ≡ Some r) × (r.settled_at ≡ old.version))
    item_now run i =
        let p = call.ran run i in
        elim (call.after.since run.key) [
          | inl q ↦ absurd (not_kept run p (sym q ∙ p.recorded))
          | inr n ↦ (n.5, (n.0, n.1, n.3))
        ]

    -- what is not a leaf has the turns of its groups
    turns_taken : {run : Run} (p : IsRunOf next (at old.version) (past_of old roots) new run)
        → (Grounded next (at old.version) run.key p.of_key.value × (run.turns ≡ suc (length p.of_key.groups))) ⊎ (IsUngrounded next (at old.version) run.key × (run.turns ≡ length p.of_key.groups)) → TakesTurns files paths old.version run
    turns_taken {run = run} p number = record {
      groups = p.of_key.groups;
      value = p.of_key.value;
      settles = subst (λ (m : ℕ). Settles next (at m) cycle run.key p.of_key.groups p.of_key.value) version ((law.each run.key p.of_key p.recorded).clean p.clean);
      number = number;
    }

    pub item_of : (run : Run) → In run runs → IsItemOf files paths earlier request run
    item_of run i =
        let p = call.ran run i in
        record {
          version = p.version;
          settled = (item_now run i).0;
          justified = elim p.item [
            | inl l ↦ inl (p.of_key.value, l.0, l.1, may_read run.key p.of_key.value l.0 (record_at old run.key) refl l.2)
            | inr n ↦ inr (n.0, turns_taken p n.2, may_run run.key (record_at old run.key) refl n.1)
          ];
        }

    misses_none : MissesNone files paths earlier request runs
    misses_none = record {
      new = λ k s never.
          let c = reached_clean s in
          elim (call.told k c.0 c.1) [
            | inl i ↦ i
            | inr o ↦ absurd (let b = linked.back k o.0 o.1 in never b.0 b.1 b.2)
          ];
      changed = λ k u v w s l g h n.
          let c = reached_clean s in
          let now = subst (λ (m : ℕ). Settles next (at m) cycle k c.0.groups c.0.value) version ((law.each k c.0 c.1).clean c.2) in
          elim (call.told k c.0 c.1) [
            | inl i ↦ i
            | inr o ↦ elim o.2 [
              | inl e ↦
                  let st = linked.last k u o.0 l o.1 in
                  absurd (n (grounded_is k v c.0.value c.0.groups g now ∙ e ∙ same_at files paths u (o.0.groups, st.settles u st.early (omega arith)) h))
              | inr ungrounded ↦ absurd (ungrounded v g)
            ]
          ];
      reread = λ k u w x leaf s l lo hi t.
          let q = last_request l in
          let r = linked.there q.0 k q.1 q.3 in
          let st = linked.last k u r.0 l r.1 in
          let early : r.0.settled_at < w = let h = st.early in omega arith in
          call.reads k x r.0 leaf r.1 (linked.lawful.leaf_clean k r.0 x r.1 leaf w early hi t) s;
    }
      where
        grounded_is : (k : Key) (v x : Value) (gs : List (List Key)) → Grounded next (at old.version) k v → Settles next (at old.version) cycle k gs x → v ≡ x
        grounded_is k v x gs g s = same_at files paths old.version (grounded_value g) (gs, s)
          where
            grounded_value : Grounded next (at old.version) k v → HasValue next (at old.version) cycle k v
            grounded_value (is_leaf e) = ([], leaf_settles e)
            grounded_value (has_run {groups = hs} e t) = (hs, run_settles e t)

    in_order : AreInOrder files paths request runs
    in_order = record {
      behind = λ before rest run e j records there apart.
          let p = call.ran run (subst (λ (rs : List Run). In run rs) (sym e) (in_middle before run rest)) in
          let s = subst (λ (m : ℕ). Settles next (at m) cycle run.key p.of_key.groups p.of_key.value) version ((law.each run.key p.of_key p.recorded).clean p.clean) in
          call.behind before rest run e p.of_key p.recorded j (records.0, asked_recorded next cycle (at old.version) s records.1, records.2) there apart;
      closed = call.closed;
    }

    -- the items of the request
    pub items_call : AreItemsOf files paths earlier request runs
    items_call = record { each = item_of; all = misses_none; order = in_order }

    -- a key with a record that has an item was settled earlier
    pub item_late : (run : Run) → In run runs → (r : Record Key Value) → record_at old run.key ≡ Some r → r.settled_at < old.version
    item_late run i r e =
        let p = call.ran run i in
        let past = (linked.lawful.each run.key r e).past.1 in
        elim p.item [
          | inl l ↦ read_late (record_at old run.key) e l.2
          | inr n ↦ run_late (record_at old run.key) e n.1
        ]
      where
        read_late : (o : Option (Record Key Value)) → o ≡ Some r → ReadIsJustified next cycle at Touched run.key old.version o → r.settled_at < old.version
        read_late o f never_read = absurd (none_some f)
        read_late o f (edited {r = q} {u = w} late early t) = let same : q.settled_at ≡ r.settled_at = ap (λ (y : Record Key Value). y.settled_at) (some_is f) in omega arith

        run_late : (o : Option (Record Key Value)) → o ≡ Some r → RunIsJustified next cycle at Touched old.version o → r.settled_at < old.version
        run_late o f never_settled = absurd (none_some f)
        run_late o f (dependency_differs {r = q} {j = j} m d) =
            let same : q.settled_at ≡ r.settled_at = ap (λ (y : Record Key Value). y.settled_at) (some_is f) in
            elim (split old.version r.settled_at) [
              | inl h ↦
                  let l = d.a_within in
                  let n = d.b_within in
                  let one : d.a ≡ d.b = omega arith in
                  absurd (d.apart (same_at files paths d.b (subst (λ (u : ℕ). HasValue next (at u) cycle j d.v) one d.at_a) d.at_b))
              | inr h ↦ h
            ]
