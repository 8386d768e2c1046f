-- Nodes are taken out of those that are open.
use Rattle.std.proofs.Common.{◌≡◌, ◌≢◌, inl, inr, ℕ, ◌+◌, Bool, true, false, List, [], ◌∷◌, ◌++◌, length, map, Option, Some, None, refl, sym, ◌∙◌, ap, subst, arith}
use Rattle.std.specs.declared.alloc.Global.{Global}
use Rattle.std.specs.declared.vec.Vec.{Vec}
use Rattle.std.specs.BTreeMap.{BTreeMap, get, is_at}
use Rattle.std.specs.Ordering.{is_lt, ordering_reverse}
use Rattle.std.specs.declared.cmp.Ordering.{Ordering}
use Rattle.std.specs.declared.cmp.Ordering.TheVariants.{Less, Equal, Greater}
use Rattle.std.specs.Map.{lookup}
use Rattle.indexmap.specs.IndexMap.{Updates}
use Rattle.engine_semantics.specs.Value.{In, first, AllDiffer}
use Rattle.keys.specs.Keys.{key_cmp, key_eq}
use Rattle.keys.specs.declared.key.Key.{Key}
use Rattle.node.specs.Records.{items_of}
use Rattle.keys.proofs.KeyLaws.{keys_total, exact_keys}
use Rattle.node.proofs.Lists.{some_is, none_some, true_false, decide_key, other_key as other_stop, in_split, in_left, in_right, in_one}
use Rattle.round_nodes.proofs.Lookups.{other_key}
use Rattle.round_nodes.specs.Nodes.{Nodes, Records, node_at, groups_of, IsOpen, Stands, Holds}
use Rattle.round_nodes.specs.TurnCounts.{turns_of, asked_by, MakesNoTurn}
use Rattle.round_nodes.specs.Steps.{HasNoted}
use Rattle.round_nodes.specs.declared.run.Run.{Run}
use Rattle.round_nodes.specs.declared.table.Node.{Node}
use Rattle.round_nodes.specs.declared.table.Phase.{Phase}
use Rattle.round_nodes.specs.declared.table.Phase.TheVariants as phase
use Rattle.round_nodes.specs.declared.table.OpenNodes.{OpenNodes}
use Rattle.round_nodes.proofs.Counting.{turns_snoc, counts_none, makes_on}
use Rattle.round_nodes.proofs.Orders.{split_snoc, none_stands}
use Rattle.round_nodes.proofs.Settlings.{differ_snoc, map_snoc, in_map, map_in}
use Rattle.round.specs.Closing.{ClosesBy, ClosesWith, HasTurnedBy, HasTurned, StopsIn, stop_at, PutsStop, closing_keys, IsClosed, IsLeast, IsRunOfClosed, AreAscending, HasTaken}
use Rattle.round.specs.declared.closing.Closing.{Closing}
use Rattle.round.specs.declared.closing.Stall.{Stall}
use Rattle.round_nodes.proofs.Grouping.{items_length, snoc_in}

append_assoc : {X : Type 0} (xs ys zs : List X) → (xs ++ ys) ++ zs ≡ xs ++ (ys ++ zs)
append_assoc [] ys zs = refl
append_assoc (x ∷ xs) ys zs = ap (λ w. x ∷ w) (append_assoc xs ys zs)

-- one more node is taken out
module _ (records : Records) (version : ℕ) (start old new : OpenNodes) (stall later : Stall) (h : HasTaken records version start old stall) (holds : Holds records start.nodes)
    (k : Key) (node : Node) (was : node_at old.nodes k ≡ Some node) (u : Updates key_eq old.nodes new.nodes k None) (least : (j : Key) → IsOpen new.nodes j → key_cmp k j ≡ Less)
    (groups : Vec (Vec Key Global) Global) (turned : Bool) (turns : HasTurned node turned) (by : ClosesWith records k node (items_of groups.items))
    (yes : turned ≡ true → new.runs.items ≡ old.runs.items ++ record { key = k; version = version; turns = length groups.items } ∷ [])
    (no : turned ≡ false → new.runs.items ≡ old.runs.items)
    (stop : Option Key) (stops : StopsIn records (items_of groups.items) stop) (puts : PutsStop stall.stops later.stops k stop)
    (more : later.closing.items ≡ stall.closing.items ++ record { key = k; groups = groups } ∷ []) where
  abbrev new_run : Run
  new_run = record { key = k; version = version; turns = length groups.items }

  abbrev item : Closing
  item = record { key = k; groups = groups }

  not_yet : In k (closing_keys stall.closing.items) → ⊥
  not_yet i = none_some (sym (h.gone k i) ∙ was)

  at_start : node_at start.nodes k ≡ Some node
  at_start = sym (h.stays k not_yet).0 ∙ was

  keys_more : closing_keys later.closing.items ≡ closing_keys stall.closing.items ++ k ∷ []
  keys_more = ap closing_keys more ∙ map_snoc (λ (c : Closing). c.key) stall.closing.items item

  apart : (y : Key) → In y (closing_keys stall.closing.items) → y ≢ k
  apart y i e = not_yet (subst (λ x. In x (closing_keys stall.closing.items)) e i)

  stop_others : (j : Key) → k ≢ j → stop_at later.stops j ≡ stop_at stall.stops j
  stop_others j n = go stop puts
    where
      go : (o : Option Key) → PutsStop stall.stops later.stops k o → stop_at later.stops j ≡ stop_at stall.stops j
      go (Some m) p = other_stop stall.stops later.stops k (Some m) p j n
      go None p = ap (λ x. stop_at x j) p

  stop_there : stop_at later.stops k ≡ stop
  stop_there = go stop puts
    where
      go : (o : Option Key) → PutsStop stall.stops later.stops k o → stop_at later.stops k ≡ o
      go (Some m) p = p.1
      go None p = ap (λ x. stop_at x k) p ∙ (h.stays k not_yet).1

  closed_before : (c : Closing) → In c stall.closing.items → IsClosed records start.nodes later.stops c
  closed_before c i = let d = h.closed c i in record {
    node = d.node;
    there = d.there;
    groups = d.groups;
    stop = subst (StopsIn records (items_of c.groups.items)) (sym (stop_others c.key (λ e. apart c.key (map_in (λ (x : Closing). x.key) i) (sym e)))) d.stop;
  }

  closed_now : IsClosed records start.nodes later.stops item
  closed_now = record { node = node; there = at_start; groups = by; stop = subst (StopsIn records (items_of groups.items)) (sym stop_there) stops }

  none_asked : turned ≡ false → groups_of node ≡ []
  none_asked e = go node.phase turns (holds k node at_start).1
    where
      go : (p : Phase) → HasTurnedBy p turned → Stands records k (groups_of node) p → groups_of node ≡ []
      go (phase.Checking at) t s = s.2
      go phase.Running t s = absurd (true_false t e)
      go phase.Out t s = absurd (true_false t e)

  its_groups : turned ≡ true → length groups.items ≡ length node.groups.items
  its_groups e = go node.phase turns by
    where
      same : items_of groups.items ≡ groups_of node → length groups.items ≡ length node.groups.items
      same q = sym (items_length groups.items) ∙ ap (λ (x : List (List Key)). length x) q ∙ items_length node.groups.items

      go : (p : Phase) → HasTurnedBy p turned → ClosesBy records k (groups_of node) p (items_of groups.items) → length groups.items ≡ length node.groups.items
      go (phase.Checking at) t b = absurd (true_false e t)
      go phase.Running t b = same b
      go phase.Out t b = same b

  none_more : MakesNoTurn old new
  none_more = counts_none old new k (λ j n. other_key old.nodes new.nodes k None u j n) (go turned refl)
    where
      gone_now : asked_by (node_at new.nodes k) ≡ 0
      gone_now = ap asked_by u.1

      no_length : (gs : List (Vec Key Global)) → items_of gs ≡ [] → length gs ≡ 0
      no_length [] e = refl
      no_length (g ∷ gs) e = cc

      go : (b : Bool) → turned ≡ b → turns_of new.runs.items + asked_by (node_at new.nodes k) ≡ turns_of old.runs.items + asked_by (node_at old.nodes k)
      go true e = let a = ap turns_of (yes e) in let b = turns_snoc old.runs.items new_run in let c = ap asked_by was in let g = its_groups e in let z = gone_now in omega (arith, a, b, c, g, z)
      go false e = let a = ap turns_of (no e) in let c = ap asked_by was in let g = no_length node.groups.items (none_asked e) in let z = gone_now in omega (arith, a, c, g, z)

  -- what does not depend on whether it has a run
  abbrev Parts : List Run → Type 0
  Parts added = (new.runs.items ≡ start.runs.items ++ added) × ((x : Run) → In x added → IsRunOfClosed version start.nodes later.closing.items x)
      × ((c : Closing) → In c later.closing.items → (n : Node) → node_at start.nodes c.key ≡ Some n → HasTurned n true → In c.key (map (λ (x : Run). x.key) added))
      × AllDiffer (map (λ (x : Run). x.key) added)
      × AreAscending added
      × ((x : Run) → In x added → (j : Key) → IsOpen new.nodes j → key_cmp x.key j ≡ Less)

  taken : (added : List Run) → Parts added → HasTaken records version start new later
  taken added p = record {
    closed = λ c i. elim (snoc_in stall.closing.items (subst (In c) more i)) [ inl a ↦ closed_before c a | inr e ↦ subst (IsClosed records start.nodes later.stops) (sym e) closed_now ];
    gone = λ j i. elim (snoc_in (closing_keys stall.closing.items) (subst (In j) keys_more i)) [
      | inl a ↦ other_key old.nodes new.nodes k None u j (λ e. apart j a (sym e)) ∙ h.gone j a
      | inr e ↦ ap (node_at new.nodes) e ∙ u.1
    ];
    stays = λ j n. let d : k ≢ j = λ e. n (subst (λ x. In x (closing_keys later.closing.items)) e (subst (In k) (sym keys_more) (in_right (closing_keys stall.closing.items) first))) in
        let s = h.stays j (λ i. n (subst (In j) (sym keys_more) (in_left (k ∷ []) i))) in
        (other_key old.nodes new.nodes k None u j d ∙ s.0, stop_others j d ∙ s.1);
    differ = subst AllDiffer (sym keys_more) (differ_snoc (closing_keys stall.closing.items) k h.differ apart);
    added = added;
    runs = p.0;
    added_each = p.1;
    added_all = p.2;
    added_differ = p.3;
    ascending = p.4;
    below = p.5;
    made = makes_on start old new h.made none_more;
  }

  in_more : (c : Closing) → In c stall.closing.items → In c later.closing.items
  in_more c i = subst (In c) (sym more) (in_left (item ∷ []) i)

  each_before : (x : Run) → In x h.added → IsRunOfClosed version start.nodes later.closing.items x
  each_before x i = let r = h.added_each x i in record { closed = r.closed; among = in_more r.closed r.among; same_key = r.same_key; now = r.now; turns = r.turns; turned = r.turned }

  run_apart : (y : Key) → In y (map (λ (x : Run). x.key) h.added) → y ≢ k
  run_apart y i e = let w = in_map (λ (x : Run). x.key) h.added i in let r = h.added_each w.0 w.1 in
      apart y (subst (λ z. In z (closing_keys stall.closing.items)) (sym r.same_key ∙ w.2) (map_in (λ (x : Closing). x.key) r.among)) e

  all_before : (c : Closing) → In c stall.closing.items → (n : Node) → node_at start.nodes c.key ≡ Some n → HasTurned n true → In c.key (map (λ (x : Run). x.key) h.added)
  all_before = h.added_all

  -- what is open still was open before
  open_before : (j : Key) → IsOpen new.nodes j → IsOpen old.nodes j
  open_before j o = elim (decide_key k j) [
    | inl q ↦ absurd (none_some (sym u.1 ∙ ap (node_at new.nodes) q ∙ o.1))
    | inr d ↦ (o.0, sym (other_key old.nodes new.nodes k None u j d) ∙ o.1)
  ]

  below_before : (x : Run) → In x h.added → (j : Key) → IsOpen new.nodes j → key_cmp x.key j ≡ Less
  below_before x i j o = h.below x i j (open_before j o)

  ascending_more : AreAscending (h.added ++ new_run ∷ [])
  ascending_more before rest x e y i = elim (split_snoc h.added new_run before rest x e) [
    | inl l ↦ elim (in_split (subst (In y) l.1 i) l.0 (new_run ∷ []) refl) [
      | inl a ↦ h.ascending before l.0 x l.2 y a
      | inr b ↦ ap (λ (z : Run). key_cmp x.key z.key) (in_one b) ∙ h.below x (subst (In x) (sym l.2) (in_right before first)) k (node, was)
    ]
    | inr r ↦ elim (subst (In y) r.2 i) [ ]
  ]

  not_both : (p : Phase) → HasTurnedBy p false → HasTurnedBy p true → ⊥
  not_both (phase.Checking at) f t = true_false refl t
  not_both phase.Running f t = true_false f refl
  not_both phase.Out f t = true_false f refl

  pub taken_more : HasTaken records version start new later
  taken_more = go turned refl
    where
      go : (b : Bool) → turned ≡ b → HasTaken records version start new later
      go true e = taken (h.added ++ new_run ∷ []) (
        yes e ∙ ap (λ (xs : List Run). xs ++ new_run ∷ []) h.runs ∙ append_assoc start.runs.items h.added (new_run ∷ []),
        (λ x i. elim (snoc_in h.added i) [
          | inl a ↦ each_before x a
          | inr q ↦ subst (IsRunOfClosed version start.nodes later.closing.items) (sym q) (record {
            closed = item;
            among = subst (In item) (sym more) (in_right stall.closing.items first);
            same_key = refl;
            now = refl;
            turns = refl;
            turned = λ n f. subst (λ (y : Node). HasTurned y true) (some_is (sym at_start ∙ f)) (subst (HasTurned node) e turns);
          })
        ]),
        (λ c i n f t. subst (In c.key) (sym (map_snoc (λ (x : Run). x.key) h.added new_run)) (elim (snoc_in stall.closing.items (subst (In c) more i)) [
          | inl a ↦ in_left (k ∷ []) (all_before c a n f t)
          | inr q ↦ in_right (map (λ (x : Run). x.key) h.added) (subst (λ y. In y (k ∷ [])) (ap (λ (x : Closing). x.key) (sym q)) first)
        ])),
        subst AllDiffer (sym (map_snoc (λ (x : Run). x.key) h.added new_run)) (differ_snoc (map (λ (x : Run). x.key) h.added) k h.added_differ run_apart),
        ascending_more,
        (λ x i j o. elim (snoc_in h.added i) [
          | inl a ↦ below_before x a j o
          | inr q ↦ ap (λ (z : Run). key_cmp z.key j) q ∙ least j o
        ]),
      )
      go false e = taken h.added (
        no e ∙ h.runs,
        each_before,
        (λ c i n f t. elim (snoc_in stall.closing.items (subst (In c) more i)) [
          | inl a ↦ all_before c a n f t
          | inr q ↦ absurd (not_both node.phase (subst (HasTurned node) e turns) (subst (λ (y : Node). HasTurned y true) (some_is (sym f ∙ ap (λ (x : Closing). node_at start.nodes x.key) q ∙ at_start)) t))
        ]),
        h.added_differ,
        h.ascending,
        below_before,
      )

pub empty_has : {X : Type 0} (m : BTreeMap Key X) → m.entries ≡ [] → (k : Key) → get key_cmp m k ≡ None
empty_has m e k = ap (λ es. lookup (is_at (key_cmp k)) es) e

-- at the start nothing is taken out
pub none_taken : (records : Records) (version : ℕ) (table : OpenNodes) (stall : Stall) → stall.closing.items ≡ [] → ((k : Key) → stop_at stall.stops k ≡ None) → HasTaken records version table table stall
none_taken records version table stall none stops = record {
  closed = λ c i. absurd (no_item (subst (In c) none i));
  gone = λ k i. absurd (no_key (subst (λ (xs : List Closing). In k (closing_keys xs)) none i));
  stays = λ k n. (refl, stops k);
  differ = subst (λ (xs : List Closing). AllDiffer (closing_keys xs)) (sym none) tt;
  added = [];
  runs = nil table.runs.items;
  added_each = λ x i. elim i [ ];
  added_all = λ c i n f t. absurd (no_item (subst (In c) none i));
  added_differ = tt;
  ascending = λ before rest x e. absurd (none_stands [] refl before rest x e);
  below = λ x i k o. elim i [ ];
  made = λ made h. h;
}
  where
    nil : (xs : List Run) → xs ≡ xs ++ []
    nil [] = refl
    nil (x ∷ xs) = ap (λ ys. x ∷ ys) (nil xs)

    no_item : {c : Closing} → In c [] → ⊥
    no_item i = elim i [ ]

    no_key : {k : Key} → In k [] → ⊥
    no_key i = elim i [ ]

-- the least key that is open is before the others
pub least_first : (old new : Nodes) (k : Key) → IsLeast old k → Updates key_eq old new k None → (j : Key) → IsOpen new j → key_cmp k j ≡ Less
least_first old new k low u j o = elim (decide_key k j) [
  | inl q ↦ absurd (none_some (sym u.1 ∙ ap (node_at new) q ∙ o.1))
  | inr d ↦ go (key_cmp j k) refl (low j (o.0, sym (other_key old new k None u j d) ∙ o.1)) d
]
  where
    go : (c : Ordering) → key_cmp j k ≡ c → is_lt (key_cmp j k) ≡ false → k ≢ j → key_cmp k j ≡ Less
    go Less e g d = absurd (true_false (ap is_lt e) g)
    go Equal e g d = absurd (d (sym (exact_keys j k e)))
    go Greater e g d = keys_total.antisymm k j ∙ ap ordering_reverse e

-- the same, as the calls leave the table
pub taken_step : (records : Records) (version : ℕ) (start old popped new : OpenNodes) (stall later : Stall) → HasTaken records version start old stall → Holds records start.nodes
    → (k : Key) (node : Node) → node_at old.nodes k ≡ Some node → Updates key_eq old.nodes popped.nodes k None → IsLeast old.nodes k → popped.runs.items ≡ old.runs.items
    → (groups : Vec (Vec Key Global) Global) (turned : Bool) → HasTurned node turned → ClosesWith records k node (items_of groups.items)
    → (v n : ℕ) → v ≡ version → n ≡ length groups.items
    → (turned ≡ true → HasNoted popped new (record { key = k; version = v; turns = n })) → (turned ≡ false → new ≡ popped)
    → (stop : Option Key) → StopsIn records (items_of groups.items) stop → PutsStop stall.stops later.stops k stop
    → later.closing.items ≡ stall.closing.items ++ record { key = k; groups = groups } ∷ [] → HasTaken records version start new later
taken_step records version start old popped new stall later h holds k node was u low runs groups turned turns by v n now count ran idle stop stops puts more =
    taken_more records version start old new stall later h holds k node was (subst (λ (x : Nodes). Updates key_eq old.nodes x k None) (same turned refl) u)
    (λ j o. least_first old.nodes popped.nodes k low u j (subst (λ (x : Nodes). IsOpen x j) (sym (same turned refl)) o)) groups turned turns by
    (λ e. (ran e).runs ∙ ap (λ (xs : List Run). xs ++ record { key = k; version = v; turns = n } ∷ []) runs ∙ ap (λ m. old.runs.items ++ record { key = k; version = m; turns = n } ∷ []) now ∙ ap (λ m. old.runs.items ++ record { key = k; version = version; turns = m } ∷ []) count)
    (λ e. ap (λ (x : OpenNodes). x.runs.items) (idle e) ∙ runs) stop stops puts more
  where
    same : (b : Bool) → turned ≡ b → popped.nodes ≡ new.nodes
    same true e = sym (ran e).nodes
    same false e = sym (ap (λ (x : OpenNodes). x.nodes) (idle e))
