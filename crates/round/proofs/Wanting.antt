-- Leaves are read, and nodes begin.
use Rattle.std.proofs.Common.{◌≡◌, ◌≢◌, ◌⊎◌, inl, inr, ℕ, ◌≤◌, Bool, true, false, List, [], ◌∷◌, ◌++◌, map, Option, Some, None, refl, sym, ◌∙◌, ap, subst, length, arith, Result, Ok, Err, IsErr}
use Rattle.indexmap.specs.IndexMap.{Updates}
use Rattle.std.specs.Option.{is_some}
use Rattle.std.specs.declared.alloc.Global.{Global}
use Rattle.std.specs.declared.vec.Vec.{Vec}
use Rattle.filetree.specs.Files.{Files}
use Rattle.keys.specs.Leaves as leaves
use Rattle.keys.specs.declared.key.Key.TheVariants as key
use Rattle.node.specs.Records.{items_of}
use Rattle.engine_semantics.specs.Reply.{Reply}
use Rattle.engine_semantics.specs.Value.{leaf, In, first, IsMember}
use Rattle.engine_semantics.specs.Value as value
use Rattle.engine_semantics.specs.Graph.{Record}
use Rattle.engine_semantics.specs.Choices.{Choice}
use Rattle.engine_semantics.specs.Choices as choices
use Rattle.engine_semantics.specs.States.{HasBacks}
use Rattle.engine_semantics.specs.Journal.{RunIsJustified, never_settled, ReadIsJustified, never_read, edited}
use Rattle.engine_semantics.proofs.Moves.{alike}
use Rattle.keys.specs.Cycles.{cycle}
use Rattle.keys.specs.Keys.{key_eq}
use Rattle.keys.specs.declared.key.Key.{Key}
use Rattle.keys.specs.declared.value.Value.{Value}
use Rattle.node.specs.Graphs.{GraphView, record_at, Sets, IsTouched}
use Rattle.node.specs.Writes.{settled_record}
use Rattle.node.specs.Laws.{SettlingKeepsLawful}
use Rattle.node.proofs.Lists.{some_is, none_some, true_false, decide_key, in_split, in_left, in_right}
use Rattle.round_nodes.proofs.Lookups.{other_key}
use Rattle.round_nodes.specs.Nodes.{Nodes, Records, node_at, groups_of, pending, IsUnsettled, Stands, IsWhole}
use Rattle.round_nodes.specs.Steps.{HasEntered, Pends, Readies, HasNoted, SameRuns}
use Rattle.round_nodes.specs.TurnCounts.{turns_of, asked_by}
use Rattle.round_nodes.specs.Invariants.{KeepsInvariantBy, LeadsOf, LeadsToEnd, AreSought, IsWantedBy, IsNext, Past, IsAfter, IsTrueOf, IsRun, nothing, IsDoing, TellOut, IsUntold, IsSettledTruly, by_read}
use Rattle.round_nodes.specs.declared.run.Run.{Run}
use Rattle.round_nodes.specs.declared.table.Node.{Node}
use Rattle.round_nodes.specs.declared.table.Phase.{Phase}
use Rattle.round_nodes.specs.declared.table.Phase.TheVariants as phase
use Rattle.round_nodes.specs.declared.table.OpenNodes.{OpenNodes}
use Rattle.round_nodes.proofs.Wholes.{unsettled_not_clean, node_changes, node_settles, keeps_clean, widens_on}
use Rattle.round_nodes.proofs.Counting.{turns_snoc, counts_same, counts_none, makes_on}
use Rattle.round_nodes.proofs.Followings.{grows_none}
use Rattle.round_nodes.proofs.Settlings.{same_since, truth_changes, settles_by_run}
use Rattle.round.specs.Moves.{StaysTrueBy, Wants, IsOpenOrSettled, KeepsOpened}
use Rattle.round.proofs.Seeking.{stored_change}

-- what was true of the round is true after a step
abbrev pub StaysTrue : (Key → Option Value) → GraphView → GraphView → OpenNodes → OpenNodes → Type 0
StaysTrue read old new before later = StaysTrueBy [] read old new before later

abbrev pub StaysTrueOf : List Key → (Key → Option Value) → GraphView → GraphView → OpenNodes → OpenNodes → Type 0
StaysTrueOf keys read old new before later = (next : Key → List Value → Reply Key Value) (laws : IsNext next) (past : Past read) (cs : List (Choice Key)) → AreSought next read past cs keys → IsTrueOf next read past cs old before.nodes before.runs.items → IsTrueOf next read past cs new later.nodes later.runs.items

-- an unsettled record is dirty
pub unsettled_dirty : (records : Records) (k : Key) (r : Record Key Value) → IsUnsettled records k → records k ≡ Some r → r.dirty ≡ true
unsettled_dirty records k r u e = go r.dirty refl
  where
    go : (b : Bool) → r.dirty ≡ b → r.dirty ≡ true
    go true t = t
    go false t = absurd (unsettled_not_clean (records k) r u e t)

-- a leaf is read
module _ (old new : GraphView) (before after : OpenNodes) (k : Key) (v : Value) (turns : Run)
    (version : new.version ≡ old.version)
    (sets : Sets (record_at old) (record_at new) k (settled_record (record_at old k) v [] old.version))
    (was : IsUnsettled (record_at old) k) (closed : node_at before.nodes k ≡ None)
    (noted : HasNoted before after turns) where
  other_nodes : (j : Key) → k ≢ j → node_at before.nodes j ≡ node_at before.nodes j
  other_nodes j n = refl

  nodes_same : (j : Key) → node_at after.nodes j ≡ node_at before.nodes j
  nodes_same j = ap (λ x. node_at x j) noted.nodes

  pub read_wants : turns.turns ≡ 0 → Wants old new before after
  read_wants none = record {
    version = version;
    widens = record {
      clean = λ j s e d. keeps_clean (record_at old) (record_at new) before.nodes before.nodes k (settled_record (record_at old k) v [] old.version) sets.there refl sets.others was closed other_nodes j s e d;
      open_still = λ j m e. nodes_same j ∙ e;
      same = λ j m e. sets.others j (λ q. none_some (sym closed ∙ ap (node_at before.nodes) q ∙ e));
    };
    whole = λ spare w. subst (λ (x : Nodes). IsWhole (record_at new) x after.ready.keys (spare ++ pending after)) (sym noted.nodes)
        (subst (λ (x : List Key). IsWhole (record_at new) before.nodes x (spare ++ pending after)) (sym noted.ready)
        (subst (λ (x : List Key). IsWhole (record_at new) before.nodes before.ready.keys (spare ++ x)) (sym noted.pends)
        (node_settles (record_at old) (record_at new) before.nodes before.nodes k (settled_record (record_at old k) v [] old.version) sets.there refl sets.others was closed other_nodes
        before.ready.keys (spare ++ pending before) (spare ++ pending before) w
        (λ i. let r = w.ready_now k i in none_some (sym closed ∙ r.1)) (λ j n i. i) (λ m x e i. absurd (none_some (sym closed ∙ e))))));
    out = λ keys o j m e. o j m (sym (nodes_same j) ∙ e);
    turns = counts_same before after noted.nodes (let a = ap turns_of noted.runs in let b = turns_snoc before.runs.items turns in omega (arith, a, b, none));
  }

  module _ (next : Key → List Value → Reply Key Value) (read : Key → Option Value) (is_leaf : read k ≡ Some v)
      (lawful : SettlingKeepsLawful old new k v []) (of_k : turns.key ≡ k) (now : turns.version ≡ old.version) (no_turns : turns.turns ≡ 0)
      (laws : IsNext next) (past : Past read) (cs : List (Choice Key)) (sought : AreSought next read past cs (k ∷ [])) (t : IsTrueOf next read past cs old before.nodes before.runs.items) where
    at_now : (u : ℕ) → u ≡ past.entry.version → past.reads u k ≡ Some v
    at_now u e = ap (λ n. past.reads n k) e ∙ past.at_present k ∙ is_leaf

    justified : ReadIsJustified next cycle past.reads (λ u j. IsTouched (past.edits u) j) turns.key past.entry.version (record_at past.entry turns.key)
    justified = subst (λ (x : Key). ReadIsJustified next cycle past.reads (λ u j. IsTouched (past.edits u) j) x past.entry.version (record_at past.entry x)) (sym of_k) (go (record_at past.entry k) refl)
      where
        same : record_at old k ≡ record_at past.entry k
        same = same_since next read laws past old t.after k was

        go : (o : Option (Record Key Value)) → record_at past.entry k ≡ o → ReadIsJustified next cycle past.reads (λ u j. IsTouched (past.edits u) j) k past.entry.version (record_at past.entry k)
        go None e = subst (ReadIsJustified next cycle past.reads (λ u j. IsTouched (past.edits u) j) k past.entry.version) (sym e) never_read
        go (Some r) e =
            let d = t.after.lawful.leaf_dirty k r v (same ∙ e) (at_now old.version t.after.version) (unsettled_dirty (record_at old) k r was (same ∙ e)) in
            subst (ReadIsJustified next cycle past.reads (λ u j. IsTouched (past.edits u) j) k past.entry.version) (sym e) (edited d.1 (subst (λ (n : ℕ). d.0 ≤ n) t.after.version d.2) d.3)

    settled_truly : IsSettledTruly next read past cs new k
    settled_truly = let u = t.untold k closed (same_since next read laws past old t.after k was) in
        record { settled = choices.leaf (sought k first).1 is_leaf; not_out = u.1; how = by_read is_leaf u.0; change = stored_change next read laws past cs old before.nodes before.runs.items t new k v [] was sets.there }

    pub read_true : IsTrueOf next read past cs new after.nodes after.runs.items
    read_true =
        subst (λ (x : Nodes). IsTrueOf next read past cs new x after.runs.items) (sym noted.nodes) (subst (λ (x : List Run). IsTrueOf next read past cs new before.nodes x) (sym noted.runs)
        (settles_by_run next read laws past cs cs (grows_none next read past cs) old new before.nodes before.nodes before.runs.items k (settled_record (record_at old k) v [] old.version) (λ j d. alike j cs) t version sets was refl (sought k first).0 refl
        (lawful next past.reads past.edits t.after.lawful (leaf (at_now old.version t.after.version))) closed other_nodes (λ s. settled_truly) turns of_k now
        (inl (ap read of_k ∙ is_leaf, no_turns, justified)) (λ j m. elim m.1 [ ]) (value.is_leaf is_leaf)))

-- a node begins
module _ (graph : GraphView) (before after : OpenNodes) (k : Key) (p : Phase) (no_out : p ≢ phase.Out)
    (closed : node_at before.nodes k ≡ None) (was : IsUnsettled (record_at graph) k)
    (entered : HasEntered before.nodes after.nodes k p)
    (stands : Stands (record_at graph) k [] p) where
  abbrev n : Node
  n = entered.0

  no_groups : groups_of n ≡ []
  no_groups = ap (map (λ g. g.items)) entered.2

  pub begin_wants : (ready_more : (j : Key) → In j after.ready.keys → In j before.ready.keys ⊎ ((k ≡ j) × (p ≡ phase.Running)))
      → ((j : Key) → In j before.ready.keys → In j after.ready.keys)
      → ((j : Key) → In j (pending before) → In j (pending after))
      → In k (pending after) ⊎ In k after.ready.keys
      → SameRuns before after
      → Wants graph graph before after
  begin_wants ready_more ready_on waits own runs = record {
    version = refl;
    widens = record {
      clean = λ j s e d. e;
      open_still = λ j m e. other_key before.nodes after.nodes k (Some n) entered.1 j (λ q. none_some (sym closed ∙ ap (node_at before.nodes) q ∙ e)) ∙ e;
      same = λ j m e. refl;
    };
    whole = λ spare w. node_changes (record_at graph) before.nodes after.nodes k n entered.1 before.ready.keys after.ready.keys (spare ++ pending before) (spare ++ pending after) w was
        (subst (λ (x : Phase). Stands (record_at graph) k (groups_of n) x) (sym entered.4) (subst (λ (x : List (List Key)). Stands (record_at graph) k x p) (sym no_groups) stands))
        (λ m x e i. absurd (none_some (sym closed ∙ e)))
        (λ j i. elim (ready_more j i) [
          | inl a ↦ inl ((λ q. let r = w.ready_now j a in none_some (sym closed ∙ ap (node_at before.nodes) q ∙ r.1)), a)
          | inr b ↦ inr (b.0, entered.4 ∙ b.1, λ i m. absurd (no_member i (subst (IsMember i) no_groups m)))
        ])
        (λ j d i. ready_on j i)
        (λ j d i. elim (in_split i spare (pending before) refl) [ inl a ↦ in_left (pending after) a | inr b ↦ in_right spare (waits j b) ])
        (λ o. elim own [ inl a ↦ inl (in_right spare a) | inr b ↦ inr (inl b) ]);
    out = λ keys o j m e f. elim (decide_key k j) [
      | inl q ↦ absurd (no_out (sym entered.4 ∙ ap (λ (x : Node). x.phase) (some_is (sym entered.1.1 ∙ ap (node_at after.nodes) q ∙ e)) ∙ f))
      | inr d ↦ o j m (sym (other_key before.nodes after.nodes k (Some n) entered.1 j d) ∙ e) f
    ];
    turns = counts_none before after k (λ j d. other_key before.nodes after.nodes k (Some n) entered.1 j d)
        (let a = ap asked_by entered.1.1 in let b = ap asked_by closed in let c = ap (λ (gs : List (Vec Key Global)). length gs) entered.2 in let r = ap turns_of runs in omega (arith, a, b, c, r));
  }
    where
      no_member : (i : Key) → IsMember i [] → ⊥
      no_member i m = elim m.1 [ ]

  module _ (next : Key → List Value → Reply Key Value) (read : Key → Option Value) (no_leaf : read k ≡ None)
      (laws : IsNext next) (past : Past read) (cs : List (Choice Key)) (sought : AreSought next read past cs (k ∷ [])) (t : IsTrueOf next read past cs graph before.nodes before.runs.items) (runs : SameRuns before after)
      (doing : record_at graph k ≡ record_at past.entry k → IsUntold next read past cs k → IsDoing next read past cs graph k [] p × TellOut next read past cs k p) where
    pub begin_true : IsTrueOf next read past cs graph after.nodes after.runs.items
    begin_true = subst (λ (x : List Run). IsTrueOf next read past cs graph after.nodes x) (sym runs)
        (truth_changes next read laws past cs cs (grows_none next read past cs) graph before.nodes after.nodes before.runs.items k n (λ j d. alike j cs) entered.1 t (record {
          no_leaf = no_leaf;
          reached = (sought k first).0;
          wanted = (sought k first).1;
          same = same;
          doing = subst (λ (x : Phase). IsDoing next read past cs graph k (groups_of n) x) (sym entered.4) (subst (λ (x : List (List Key)). IsDoing next read past cs graph k x p) (sym no_groups) does.0);
          out = subst (λ (x : Phase). TellOut next read past cs k x) (sym entered.4) does.1;
        }) was)
      where
        same : record_at graph k ≡ record_at past.entry k
        same = same_since next read laws past graph t.after k was

        does : IsDoing next read past cs graph k [] p × TellOut next read past cs k p
        does = doing same (t.untold k closed same)

-- a node without a record may make turns
pub first_run : (next : Key → List Value → Reply Key Value) (read : Key → Option Value) (past : Past read) (cs : List (Choice Key)) (graph : GraphView) (k : Key) → read k ≡ None → IsWantedBy next read past cs k → record_at graph k ≡ None
    → record_at graph k ≡ record_at past.entry k → HasBacks k 0 cs → IsRun next read past cs graph k []
first_run next read past cs graph k no_leaf wanted e same none = record {
  justified = subst (RunIsJustified next cycle past.reads (λ u j. IsTouched (past.edits u) j) past.entry.version) (sym e ∙ same) never_settled;
  asks = nothing;
  runs = choices.is_new wanted no_leaf (sym same ∙ e);
  begun = inl (sym same ∙ e);
  taken = none;
}

-- the check of a record begins
module _ (graph : GraphView) (before after : OpenNodes) (k : Key) (closed : node_at before.nodes k ≡ None) (was : IsUnsettled (record_at graph) k)
    (entered : HasEntered before.nodes after.nodes k (phase.Checking 0)) (pends : Pends before after k) (r : Record Key Value) (there : record_at graph k ≡ Some r) where
  not_out : phase.Checking 0 ≢ phase.Out
  not_out e = cc

  stands : Stands (record_at graph) k [] (phase.Checking 0)
  stands = (r, there, refl, λ j m. elim m.1 [ ])

  pub check_begins : Wants graph graph before after
  check_begins = begin_wants graph before after k (phase.Checking 0) not_out closed was entered stands
      (λ j i. inl (subst (In j) pends.ready i)) (λ j i. subst (In j) (sym pends.ready) i)
      (λ j i. subst (In j) (sym pends.pends) (in_left (k ∷ []) i)) (inl (subst (In k) (sym pends.pends) (in_right (pending before) first))) pends.runs

  pub check_true : (read : Key → Option Value) → read k ≡ None → StaysTrueOf (k ∷ []) read graph graph before after
  check_true read no_leaf = λ next laws past cs sought t. begin_true graph before after k (phase.Checking 0) not_out closed was entered stands next read no_leaf laws past cs sought t pends.runs (λ same untold. (
    record {
      of_entry = r;
      recorded = sym same ∙ there;
      marked = unsettled_dirty (record_at graph) k r was there;
      rest = r.groups;
      checks = choices.begins (sought k first).1 no_leaf (sym same ∙ there) (unsettled_dirty (record_at graph) k r was there);
      split = refl;
      unchanged = λ j m. elim m.1 [ ];
      none_taken = untold.0;
    },
    untold.1,
  ))

-- the turns of a node without a record begin
module _ (graph : GraphView) (before after : OpenNodes) (k : Key) (closed : node_at before.nodes k ≡ None) (was : IsUnsettled (record_at graph) k)
    (entered : HasEntered before.nodes after.nodes k phase.Running) (readies : Readies before after k) (none : record_at graph k ≡ None) where
  running_not_out : phase.Running ≢ phase.Out
  running_not_out e = cc

  pub run_begins : Wants graph graph before after
  run_begins = begin_wants graph before after k phase.Running running_not_out closed was entered (inl refl)
      (λ j i. elim (readies.ready.from j i) [ inl a ↦ inl a | inr q ↦ inr (q, refl) ]) (λ j i. readies.ready.keeps j i)
      (λ j i. subst (In j) (sym readies.pends) i) (inr readies.ready.has) readies.runs

  pub run_true : (read : Key → Option Value) → read k ≡ None → StaysTrueOf (k ∷ []) read graph graph before after
  run_true read no_leaf = λ next laws past cs sought t. begin_true graph before after k phase.Running running_not_out closed was entered (inl refl) next read no_leaf laws past cs sought t readies.runs
      (λ same untold. (first_run next read past cs graph k no_leaf (sought k first).1 none same untold.0, untold.1))

-- what a call stores for a leaf
pub read_sets : (old new : GraphView) (a k : Key) (v : Value) (gs : List (Vec Key Global)) → a ≡ k → gs ≡ [] → Sets (record_at old) (record_at new) a (settled_record (record_at old a) v (items_of gs) old.version) → Sets (record_at old) (record_at new) k (settled_record (record_at old k) v [] old.version)
read_sets old new a k v gs e f s = subst (λ (x : Key). Sets (record_at old) (record_at new) x (settled_record (record_at old x) v [] old.version)) e (subst (λ (xs : List (Vec Key Global)). Sets (record_at old) (record_at new) a (settled_record (record_at old a) v (items_of xs) old.version)) f s)

pub read_keeps : (old new : GraphView) (a k : Key) (v : Value) (gs : List (Vec Key Global)) → a ≡ k → gs ≡ [] → SettlingKeepsLawful old new a v (items_of gs) → SettlingKeepsLawful old new k v []
read_keeps old new a k v gs e f s = subst (λ (x : Key). SettlingKeepsLawful old new x v []) e (subst (λ (xs : List (Vec Key Global)). SettlingKeepsLawful old new a v (items_of xs)) f s)

pub wants_on : (a b c : GraphView) (x y z : OpenNodes) → Wants a b x y → Wants b c y z → Wants a c x z
wants_on a b c x y z f g = record {
  version = g.version ∙ f.version;
  widens = widens_on (record_at a) (record_at b) (record_at c) x.nodes y.nodes z.nodes f.widens g.widens;
  whole = λ spare w. g.whole spare (f.whole spare w);
  out = λ keys o. g.out keys (f.out keys o);
  turns = makes_on x y z f.turns g.turns;
}

pub wanted_on : (a b : GraphView) (x y : OpenNodes) (k : Key) → Wants a b x y → IsOpenOrSettled a x k → IsOpenOrSettled b y k
wanted_on a b x y k w (inl o) = inl (o.0, w.widens.open_still k o.0 o.1)
wanted_on a b x y k w (inr c) = inr (c.0, w.widens.clean k c.0 c.1 c.2, c.2)

-- tests
pub some_there : {X : Type 0} (o : Option X) → is_some o ≡ true → (x : X) × (o ≡ Some x)
some_there None e = absurd (true_false e refl)
some_there (Some x) e = (x, refl)

pub none_there : {X : Type 0} (o : Option X) → is_some o ≡ false → o ≡ None
none_there None e = refl
none_there (Some x) e = absurd (true_false refl e)

-- a key that is not a leaf is read as none
pub no_leaf : (files : Files) (k : Key) → leaves.is_leaf k ≡ false → leaves.read files k ≡ None
no_leaf files (key.File path) e = absurd (true_false refl e)
no_leaf files (key.Listing directory) e = absurd (true_false refl e)
no_leaf files (key.Lookup directory) e = refl
no_leaf files (key.Glob below pattern directories) e = refl
no_leaf files (key.Module label) e = refl
no_leaf files (key.Package name) e = refl
no_leaf files (key.Under directory) e = refl

-- after a stop
pub leads_err : {X E : Type 0} (added : List (Choice Key)) (next : Key → List Value → Reply Key Value) (read : Key → Option Value) (old new : GraphView) (before later : OpenNodes) (r : Result X E) → IsErr r
    → ((laws : IsNext next) (past : Past read) (cs : List (Choice Key)) → IsTrueOf next read past cs old before.nodes before.runs.items → IsAfter next read past new) → KeepsInvariantBy added next read old new before later r
leads_err added next read old new before later (Ok x) e h = absurd (true_false e refl)
leads_err added next read old new before later (Err x) e h = h

pub leads_of_err : {X E : Type 0} (next : Key → List Value → Reply Key Value) (read : Key → Option Value) (keys : List Key) (old new : GraphView) (before later : OpenNodes) (r : Result X E) → IsErr r
    → ((laws : IsNext next) (past : Past read) (cs : List (Choice Key)) → AreSought next read past cs keys → IsTrueOf next read past cs old before.nodes before.runs.items → IsAfter next read past new) → LeadsOf next read keys old new before later r
leads_of_err next read keys old new before later (Ok x) e h = absurd (true_false e refl)
leads_of_err next read keys old new before later (Err x) e h = h

pub leads_to_end_err : {X E : Type 0} (next : Key → List Value → Reply Key Value) (read : Key → Option Value) (old new : GraphView) (before later : OpenNodes) (r : Result X E) → IsErr r
    → ((laws : IsNext next) (past : Past read) (cs : List (Choice Key)) → IsTrueOf next read past cs old before.nodes before.runs.items → IsAfter next read past new) → LeadsToEnd next read old new before later r
leads_to_end_err next read old new before later (Ok x) e h = absurd (true_false e refl)
leads_to_end_err next read old new before later (Err x) e h = h

-- one node is set: what was opened is
pub wanted_set : (graph : GraphView) (before later : OpenNodes) (k : Key) (n : Node) → Updates key_eq before.nodes later.nodes k (Some n) → KeepsOpened graph graph before later
wanted_set graph before later k n u j (inr c) = inr c
wanted_set graph before later k n u j (inl o) = elim (decide_key k j) [
  | inl e ↦ inl (n, ap (node_at later.nodes) (sym e) ∙ u.1)
  | inr d ↦ inl (o.0, other_key before.nodes later.nodes k (Some n) u j d ∙ o.1)
]

-- one node leaves, and is settled
pub wanted_leaves : (old new : GraphView) (before later : OpenNodes) (k : Key) (r : Record Key Value) → record_at new k ≡ Some r → r.dirty ≡ false → ((j : Key) → k ≢ j → record_at new j ≡ record_at old j)
    → ((j : Key) → k ≢ j → node_at later.nodes j ≡ node_at before.nodes j) → KeepsOpened old new before later
wanted_leaves old new before later k r there clean records nodes j (inl o) = elim (decide_key k j) [
  | inl e ↦ inr (r, ap (record_at new) (sym e) ∙ there, clean)
  | inr d ↦ inl (o.0, nodes j d ∙ o.1)
]
wanted_leaves old new before later k r there clean records nodes j (inr c) = elim (decide_key k j) [
  | inl e ↦ inr (r, ap (record_at new) (sym e) ∙ there, clean)
  | inr d ↦ inr (c.0, records j d ∙ c.1, c.2)
]

pub wanted_same : (graph : GraphView) (before later : OpenNodes) → later.nodes ≡ before.nodes → KeepsOpened graph graph before later
wanted_same graph before later e j (inl o) = inl (o.0, ap (λ x. node_at x j) e ∙ o.1)
wanted_same graph before later e j (inr c) = inr c
