-- What is true of a round stays true, where one node changes and where one key is settled.
use Rattle.std.proofs.Common.{◌≡◌, ◌≢◌, ◌⊎◌, inl, inr, ℕ, true, false, List, [], ◌∷◌, ◌++◌, map, Option, Some, None, refl, sym, ◌∙◌, ap, subst}
use Rattle.std.specs.List.{AllByRecursion}
use Rattle.indexmap.specs.IndexMap.{Updates}
use Rattle.engine_semantics.specs.Reply.{Reply}
use Rattle.engine_semantics.specs.Value.{Grounded, is_leaf, has_run, IsUngrounded, AllDiffer, Settles, leaf, run, closed, In, first, after, IsMember}
use Rattle.engine_semantics.specs.Graph.{Record}
use Rattle.engine_semantics.specs.Choices.{Choice}
use Rattle.engine_semantics.proofs.Moves.{TellsAlike}
use Rattle.engine_semantics.proofs.ClosedSets.{ungrounded}
use Rattle.engine_semantics.proofs.Plain.{of_grounded}
use Rattle.keys.specs.Cycles.{cycle}
use Rattle.keys.specs.Keys.{key_eq}
use Rattle.keys.specs.Turns.{NoCycle}
use Rattle.keys.specs.declared.key.Key.{Key}
use Rattle.keys.specs.declared.value.Value.{Value}
use Rattle.node.specs.Graphs.{GraphView, record_at, present, Sets}
use Rattle.node.specs.Laws.{IsConsistentFor}
use Rattle.node.proofs.Lists.{some_is, none_some, true_false, decide_key, in_split, in_left, in_right, in_one}
use Rattle.round_nodes.proofs.Lookups.{other_key}
use Rattle.round_nodes.specs.Nodes.{Nodes, node_at, IsUnsettled, IsClean}
use Rattle.round_nodes.specs.Invariants.{IsNext, Past, IsReached, IsSince, IsAfter, IsOpenTruly, IsItem, IsRunOf, run_keys, IsLogged, AreBehind, IsSettledTruly, IsUntold, IsTrueOf}
use Rattle.round_nodes.specs.declared.run.Run.{Run}
use Rattle.round_nodes.specs.declared.table.Node.{Node}
use Rattle.round_nodes.proofs.Followings.{Grows, opened_on, settled_still, untold_on}
use Rattle.round_nodes.proofs.Orders.{split_snoc}
use Rattle.round_nodes.proofs.Wholes.{unsettled_not_clean}

-- a key that is none of the list may be put after it
pub differ_snoc : {X : Type 0} (xs : List X) (x : X) → AllDiffer xs → ((y : X) → In y xs → y ≢ x) → AllDiffer (xs ++ x ∷ [])
differ_snoc [] x d n = (tt, tt)
differ_snoc {X} (y ∷ xs) x d n = (all xs d.0, differ_snoc xs x d.1 (λ z i. n z (after i)))
  where
    all : (ys : List X) → AllByRecursion (λ j. y ≢ j) ys → AllByRecursion (λ j. y ≢ j) (ys ++ x ∷ [])
    all [] a = (n y first, tt)
    all (z ∷ ys) a = (a.0, all ys a.1)

pub map_snoc : {X Y : Type 0} (f : X → Y) (xs : List X) (x : X) → map f (xs ++ x ∷ []) ≡ map f xs ++ f x ∷ []
map_snoc f [] x = refl
map_snoc f (y ∷ xs) x = ap (λ ys. f y ∷ ys) (map_snoc f xs x)

pub in_map : {X Y : Type 0} (f : X → Y) (xs : List X) {y : Y} → In y (map f xs) → (x : X) × In x xs × (f x ≡ y)
in_map f [] i = elim i [ ]
in_map {X} {Y} f (x ∷ xs) {y = y} i = go (λ j. in_map f xs j) i refl
  where
    go : (In y (map f xs) → (w : X) × In w xs × (f w ≡ y)) → {zs : List Y} → In y zs → zs ≡ f x ∷ map f xs → (w : X) × In w (x ∷ xs) × (f w ≡ y)
    go below (first {xs = ws}) e = (x, first, (cc))
    go below (after {xs = ws} j) e = let q : ws ≡ map f xs = cc in let r = below (subst (In y) q j) in (r.0, after r.1, r.2)

pub map_in : {X Y : Type 0} (f : X → Y) {xs : List X} {x : X} → In x xs → In (f x) (map f xs)
map_in f first = first
map_in f (after i) = after (map_in f i)

module _ (next : Key → List Value → Reply Key Value) (read : Key → Option Value) (laws : IsNext next) (past : Past read) where
  pub now_is : past.reads past.entry.version ≡ read
  now_is = λ i k. past.at_present k i

  -- a grounded value is not a cycle
  pub grounded_plain : (u : ℕ) (k : Key) (v : Value) → Grounded next (past.reads u) k v → NoCycle v
  grounded_plain u k v g = of_grounded next (past.reads u) NoCycle (past.leaf_plain u) laws.ends_plain g

  pub plain : (u : ℕ) (k : Key) (v : Value) (xs : List Key) → Grounded next (past.reads u) k v → v ≢ cycle xs
  plain u k v xs g e = subst NoCycle e (grounded_plain u k v g)

  module _ (graph : GraphView) (a : IsAfter next read past graph) where
    -- an unsettled key has its record of the entry
    pub same_since : (k : Key) → IsUnsettled (record_at graph) k → record_at graph k ≡ record_at past.entry k
    same_since k u = elim (a.since k) [
      | inl e ↦ e
      | inr s ↦ absurd (unsettled_not_clean (record_at graph k) s.0 u s.1 s.2)
    ]

    -- what a settled key holds is its value at the present files
    pub clean_settles : (k : Key) (r : Record Key Value) → record_at graph k ≡ Some r → r.dirty ≡ false → Settles next read cycle k r.groups r.value
    clean_settles k r e d = subst (λ f. Settles next f cycle k r.groups r.value) (ap past.reads a.version ∙ now_is) ((a.lawful.each k r e).clean d)

    pub plain_grounded : (k : Key) (r : Record Key Value) → record_at graph k ≡ Some r → r.dirty ≡ false → NoCycle r.value → Grounded next read k r.value
    plain_grounded k r e d n = go (clean_settles k r e d) n
      where
        go : {gs : List (List Key)} {v : Value} → Settles next read cycle k gs v → NoCycle v → Grounded next read k v
        go (leaf h) p = is_leaf h
        go (run h t) p = has_run h t
        go (closed h s c) p = absurd (subst NoCycle c.value p)

    pub cycle_ungrounded : (k : Key) (r : Record Key Value) → record_at graph k ≡ Some r → r.dirty ≡ false → (NoCycle r.value → ⊥) → IsUngrounded next read k
    cycle_ungrounded k r e d n = go (clean_settles k r e d) n
      where
        of_now : {v : Value} → Grounded next read k v → NoCycle v
        of_now {v = v} g = grounded_plain past.entry.version k v (subst (λ f. Grounded next f k v) (sym now_is) g)

        go : {gs : List (List Key)} {v : Value} → Settles next read cycle k gs v → (NoCycle v → ⊥) → IsUngrounded next read k
        go (leaf h) p = absurd (p (of_now (is_leaf h)))
        go (run h t) p = absurd (p (of_now (has_run h t)))
        go (closed h s c) p = ungrounded next read h s

    -- the members of a settled node are settled
    pub member_clean : (k : Key) (r : Record Key Value) → record_at graph k ≡ Some r → r.dirty ≡ false → (j : Key) → IsMember j r.groups → IsClean (record_at graph) j
    member_clean k r e d j m = let o = (a.lawful.each k r e).depends j m in (o.of_j, o.recorded, go o.of_j.dirty refl o.dirty_above)
      where
        go : {x : _} → (b : _) → x ≡ b → (x ≡ true → r.dirty ≡ true) → x ≡ false
        go false q f = q
        go true q f = absurd (true_false (f q) d)

  -- one node is set
  pub truth_changes : (cs ds : List (Choice Key)) (g : Grows next read past cs ds) (graph : GraphView) (nodes later : Nodes) (runs : List Run) (k : Key) (n : Node) → ((j : Key) → k ≢ j → TellsAlike j cs ds)
      → Updates key_eq nodes later k (Some n) → IsTrueOf next read past cs graph nodes runs → IsOpenTruly next read past ds graph k n → IsUnsettled (record_at graph) k → IsTrueOf next read past ds graph later runs
  truth_changes cs ds g graph nodes later runs k n alike u t o was = record {
    before = t.before;
    after = t.after;
    opened = λ j m e. elim (decide_key k j) [
      | inl q ↦ let is : n ≡ m = some_is (sym u.1 ∙ ap (node_at later) q ∙ e) in
          subst (λ (y : Key). IsOpenTruly next read past ds graph y m) q (subst (λ (y : Node). IsOpenTruly next read past ds graph k y) is o)
      | inr d ↦ opened_on next read past graph graph (λ i c. c) cs ds g j (alike j d) m refl (t.opened j m (sym (other_key nodes later k (Some n) u j d) ∙ e))
    ];
    ran = t.ran;
    differ = t.differ;
    told = t.told;
    behind = t.behind;
    grounded = t.grounded;
    settled = λ j e c. elim (decide_key k j) [
      | inl q ↦ absurd (unsettled_not_clean (record_at graph j) c.0 (subst (IsUnsettled (record_at graph)) q was) c.1 c.2)
      | inr d ↦ settled_still next read past graph graph (λ i h. h) cs ds g j (alike j d) refl (t.settled j e c)
    ];
    untold = λ j e same. elim (decide_key k j) [
      | inl q ↦ absurd (none_some (sym e ∙ ap (node_at later) (sym q) ∙ u.1))
      | inr d ↦ untold_on next read past graph graph (λ i h. h) cs ds g j (alike j d) (t.untold j (sym (other_key nodes later k (Some n) u j d) ∙ e) same)
    ];
  }

  -- one key is settled, and leaves the open nodes
  module _ (cs ds : List (Choice Key)) (g : Grows next read past cs ds) (graph new : GraphView) (nodes left : Nodes) (runs : List Run) (k : Key) (r : Record Key Value)
      (alike : (j : Key) → k ≢ j → TellsAlike j cs ds) (t : IsTrueOf next read past cs graph nodes runs) (version : new.version ≡ graph.version)
      (sets : Sets (record_at graph) (record_at new) k r) (was : IsUnsettled (record_at graph) k)
      (is_clean : r.dirty ≡ false) (reached : IsReached next read past k) (at : r.settled_at ≡ graph.version) (lawful : IsConsistentFor next past.reads past.edits new)
      (gone : node_at left k ≡ None) (others_stay : (j : Key) → k ≢ j → node_at left j ≡ node_at nodes j)
      (truly : ((j : Key) → IsClean (record_at graph) j → IsClean (record_at new) j) → IsSettledTruly next read past ds new k) where
    keeps : (j : Key) (s : Record Key Value) → record_at graph j ≡ Some s → s.dirty ≡ false → record_at new j ≡ Some s
    keeps j s e d = elim (decide_key k j) [
      | inl q ↦ absurd (unsettled_not_clean (record_at graph j) s (subst (IsUnsettled (record_at graph)) q was) e d)
      | inr n ↦ sets.others j n ∙ e
    ]

    clean_still : (j : Key) → IsClean (record_at graph) j → IsClean (record_at new) j
    clean_still j c = (c.0, keeps j c.0 c.1 c.2, c.2)

    settled_still_or : (j : Key) → IsUnsettled (record_at past.entry) j → IsClean (record_at new) j → IsSettledTruly next read past ds new j
    settled_still_or j e c = elim (decide_key k j) [
      | inl q ↦ subst (IsSettledTruly next read past ds new) q (truly clean_still)
      | inr n ↦ settled_still next read past graph new clean_still cs ds g j (alike j n) (sets.others j n) (t.settled j e (c.0, sym (sets.others j n) ∙ c.1, c.2))
    ]

    untold_still : (j : Key) → node_at left j ≡ None → record_at new j ≡ record_at past.entry j → IsUntold next read past ds j
    untold_still j e same = elim (decide_key k j) [
      | inl q ↦ absurd (unsettled_not_clean (record_at past.entry k) r (subst (λ o. present o ≡ None) (same_since graph t.after k was) was) (ap (λ i. record_at past.entry i) q ∙ sym same ∙ ap (record_at new) (sym q) ∙ sets.there) is_clean)
      | inr n ↦ untold_on next read past graph new clean_still cs ds g j (alike j n) (t.untold j (sym (others_stay j n) ∙ e) (sym (sets.others j n) ∙ same))
    ]

    pub settled_after : IsAfter next read past new
    settled_after = record {
      version = version ∙ t.after.version;
      lawful = lawful;
      since = λ j. elim (decide_key k j) [
        | inl q ↦ subst (IsSince next read past new) q (inr (r, sets.there, is_clean, at ∙ t.after.version, subst (λ o. present o ≡ None) (same_since graph t.after k was) was, reached))
        | inr n ↦ elim (t.after.since j) [
          | inl e ↦ inl (sets.others j n ∙ e)
          | inr s ↦ inr (s.0, sets.others j n ∙ s.1, s.2, s.3, s.4, s.5)
        ]
      ];
    }

    left_nodes : (j : Key) (m : Node) → node_at left j ≡ Some m → IsOpenTruly next read past ds new j m
    left_nodes j m e = elim (decide_key k j) [
      | inl q ↦ absurd (none_some (sym gone ∙ ap (node_at left) q ∙ e))
      | inr n ↦ opened_on next read past graph new clean_still cs ds g j (alike j n) m (sets.others j n) (t.opened j m (sym (others_stay j n) ∙ e))
    ]

    run_stays : (x : Run) → IsRunOf next read past graph x → IsRunOf next read past new x
    run_stays x o = record { of_key = o.of_key; recorded = keeps x.key o.of_key o.recorded o.clean; clean = o.clean; version = o.version; item = o.item }

    -- a run's node has the record that it had
    same_record : (x : Run) → In x runs → (w : Record Key Value) → record_at new x.key ≡ Some w → record_at graph x.key ≡ Some w
    same_record x i w e = let o = t.ran x i in o.recorded ∙ (sym (keeps x.key o.of_key o.recorded o.clean) ∙ e)

    at_place : (before rest : List Run) (x : Run) → runs ≡ before ++ x ∷ rest → In x runs
    at_place before rest x e = subst (In x) (sym e) (in_right before first)

    behind_still : AreBehind next read past new runs
    behind_still before rest x e w f j m i apart = t.behind before rest x e w (same_record x (at_place before rest x e) w f) j m i apart

    -- without a run: it is not a leaf, and its value is that of the entry, or that of a cycle
    pub settles_quietly : (s : Record Key Value) → record_at past.entry k ≡ Some s → (r.value ≡ s.value) ⊎ IsUngrounded next read k → read k ≡ None → IsTrueOf next read past ds new left runs
    settles_quietly s e same no_leaf = record {
      before = t.before;
      after = settled_after;
      opened = left_nodes;
      ran = λ x i. run_stays x (t.ran x i);
      differ = t.differ;
      told = λ j w f. elim (decide_key k j) [
        | inl q ↦ subst (λ (y : Key). IsLogged next read past runs y w) q
            (inr (s, e, subst (λ (z : Record Key Value). (z.value ≡ s.value) ⊎ IsUngrounded next read k) (some_is (sym sets.there ∙ ap (record_at new) q ∙ f)) same, λ v l. absurd (none_some (sym no_leaf ∙ l))))
        | inr n ↦ t.told j w (sym (sets.others j n) ∙ f)
      ];
      behind = behind_still;
      grounded = t.grounded;
      settled = settled_still_or;
      untold = untold_still;
    }

    -- with a run, where its members were settled before
    module _ (x : Run) (of_k : x.key ≡ k) (now : x.version ≡ graph.version) (item : IsItem next read past x r)
        (members : (j : Key) → IsMember j r.groups → IsClean (record_at graph) j) (is_grounded : Grounded next read k r.value) where
      apart : (y : Key) → In y (run_keys next read past runs) → y ≢ k
      apart y i q = let w = in_map (λ (z : Run). z.key) runs i in let o = t.ran w.0 w.1 in
          unsettled_not_clean (record_at graph k) o.of_key was (ap (record_at graph) (sym (w.2 ∙ q)) ∙ o.recorded) o.clean

      more : (j : Key) (w : Record Key Value) → IsLogged next read past runs j w → IsLogged next read past (runs ++ x ∷ []) j w
      more j w (inl i) = inl (subst (In j) (sym (map_snoc (λ (z : Run). z.key) runs x)) (in_left (x.key ∷ []) i))
      more j w (inr o) = inr o

      in_last : (ys : List Key) → In k (ys ++ x.key ∷ [])
      in_last [] = subst (λ y. In k (y ∷ [])) (sym of_k) first
      in_last (y ∷ ys) = after (in_last ys)

      -- a settled key is none of those that are settled now
      among_old : (j : Key) → IsClean (record_at graph) j → In j (run_keys next read past (runs ++ x ∷ [])) → In j (run_keys next read past runs)
      among_old j c i = elim (in_split (subst (In j) (map_snoc (λ (z : Run). z.key) runs x) i) (run_keys next read past runs) (x.key ∷ []) refl) [
        | inl o ↦ o
        | inr o ↦ absurd (unsettled_not_clean (record_at graph k) c.0 was (ap (record_at graph) (sym (in_one o ∙ of_k)) ∙ c.1) c.2)
      ]

      behind_more : AreBehind next read past new (runs ++ x ∷ [])
      behind_more before rest y e w f j m i lost = elim (split_snoc runs x before rest y e) [
        | inl l ↦
            let at = at_place before l.0 y l.2 in
            let was_so = same_record y at w f in
            let o = t.ran y at in
            let clean : w.dirty ≡ false = ap (λ (z : Record Key Value). z.dirty) (some_is (sym was_so ∙ o.recorded)) ∙ o.clean in
            t.behind before l.0 y l.2 w was_so j m (among_old j (member_clean graph t.after y.key w was_so clean j m) i) lost
        | inr l ↦
            let is : r ≡ w = some_is (sym sets.there ∙ ap (record_at new) (sym of_k ∙ ap (λ (z : Run). z.key) l.1) ∙ f) in
            subst (λ (zs : List Run). In j (run_keys next read past zs)) (sym l.0) (among_old j (members j (subst (λ (z : Record Key Value). IsMember j z.groups) (sym is) m)) i)
      ]

      pub settles_by_run : IsTrueOf next read past ds new left (runs ++ x ∷ [])
      settles_by_run = record {
        before = t.before;
        after = settled_after;
        opened = left_nodes;
        ran = λ y i. elim (in_split i runs (x ∷ []) refl) [
          | inl j ↦ run_stays y (t.ran y j)
          | inr j ↦ subst (IsRunOf next read past new) (sym (in_one j))
              (record { of_key = r; recorded = ap (record_at new) of_k ∙ sets.there; clean = is_clean; version = now ∙ t.after.version; item = item })
        ];
        differ = subst AllDiffer (sym (map_snoc (λ (z : Run). z.key) runs x)) (differ_snoc (run_keys next read past runs) x.key t.differ (λ y i q. apart y i (q ∙ of_k)));
        told = λ j w f. elim (decide_key k j) [
          | inl q ↦ inl (subst (λ y. In y (run_keys next read past (runs ++ x ∷ []))) q (subst (In k) (sym (map_snoc (λ (z : Run). z.key) runs x)) (in_last (run_keys next read past runs))))
          | inr n ↦ more j w (t.told j w (sym (sets.others j n) ∙ f))
        ];
        behind = behind_more;
        grounded = λ y i. elim (in_split i runs (x ∷ []) refl) [
          | inl o ↦ t.grounded y o
          | inr o ↦ (r.value, subst (λ z. Grounded next read z r.value) (sym of_k ∙ ap (λ (z : Run). z.key) (sym (in_one o))) is_grounded)
        ];
        settled = settled_still_or;
        untold = untold_still;
      }
