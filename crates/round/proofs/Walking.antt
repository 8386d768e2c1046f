-- Walks along stops.
use Rattle.std.proofs.Common.{◌≡◌, ◌≢◌, ◌⊎◌, inl, inr, ℕ, zero, suc, ◌+◌, ◌-◌, ◌<◌, ◌≤◌, Bool, true, false, List, [], ◌∷◌, ◌++◌, length, take, drop, Option, Some, None, refl, sym, ◌∙◌, ap, subst, slice_index_or, arith}
use Rattle.std.proofs.lemmas.List.{take-append-drop}
use Rattle.std.specs.List.{AllByRecursion}
use Rattle.std.specs.Option.{option_map}
use Rattle.std.specs.Arc.{arc_value}
use Rattle.std.specs.BTreeMap.{Updates}
use Rattle.std.specs.declared.alloc.Global.{Global}
use Rattle.std.specs.declared.sync.Arc.{Arc}
use Rattle.engine_semantics.specs.Value.{In, first, after, AllDiffer}
use Rattle.engine_semantics.specs.Graph.{Record}
use Rattle.keys.specs.Cycles.{cycle}
use Rattle.keys.specs.Keys.{key_cmp}
use Rattle.keys.specs.declared.key.Key.{Key}
use Rattle.keys.specs.declared.value.Value.{Value}
use Rattle.node.specs.Batches.{entry_groups, keys_of}
use Rattle.node.specs.Graphs.{present}
use Rattle.node.specs.Records.{items_of}
use Rattle.node.specs.declared.entry.Entry.{Entry}
use Rattle.node.proofs.Lists.{some_is, none_some, true_false, decide_key, other_key, in_left, in_right}
use Rattle.round_nodes.specs.Nodes.{Records, IsClean}
use Rattle.round_nodes.proofs.Counting.{decide_in}
use Rattle.round_nodes.proofs.Settlings.{differ_snoc, map_snoc, map_in}
use Rattle.round.specs.Closing.{Stops, stop_at, closing_keys}
use Rattle.round.specs.declared.closing.Closing.{Closing}
use Rattle.round.specs.Showing.{Chain, stay, step, Shows, IsStall, CycleValues, shown_at, IsShowing, HasWalked, IsFrom, value_in, EndsWith, ShowsAll, AreEntries}
use Rattle.round.proofs.Stalling.{empty_has}
use Rattle.round.proofs.Confirming.{take_whole}
use Rattle.round_nodes.proofs.Grouping.{taken_next, snoc_in, rest_at}

module _ (stops : Key → Option Key) where
  pub chain_snoc : {k j i : Key} {path : List Key} → Chain stops k path j → stops j ≡ Some i → Chain stops k (path ++ j ∷ []) i
  chain_snoc stay e = step e stay
  chain_snoc (step f c) e = step f (chain_snoc c e)

  pub chain_on : {k i j : Key} {path more : List Key} → Chain stops k path i → Chain stops i more j → Chain stops k (path ++ more) j
  chain_on stay d = d
  chain_on (step f c) d = step f (chain_on c d)

  -- from a key of the path on
  pub chain_from : (pre suf : List Key) {k j x : Key} (path : List Key) → Chain stops k path j → path ≡ pre ++ x ∷ suf → Chain stops x (x ∷ suf) j
  chain_from [] suf path stay e = cc
  chain_from [] suf {j = j} {x = x} path (step {k = k} {i = i} {keys = ks} s c) e =
      let q : k ≡ x = cc in
      let t : ks ≡ suf = cc in
      subst (λ y. Chain stops y (y ∷ suf) j) q (subst (λ y. Chain stops k (k ∷ y) j) t (step s c))
  chain_from (y ∷ pre) suf path stay e = cc
  chain_from (y ∷ pre) suf {x = x} path (step {k = k} {keys = ks} s c) e = let t : ks ≡ pre ++ x ∷ suf = cc in chain_from pre suf ks c t

  -- each key of the path has a stop
  pub chain_member : {k j : Key} {path : List Key} → Chain stops k path j → (x : Key) → In x path → (i : Key) × (stops x ≡ Some i)
  chain_member stay x m = elim m [ ]
  chain_member {path = path} (step {k = k} {i = i} {keys = ks} s c) x m = go (λ h. chain_member c x h) m refl
    where
      go : (In x ks → (y : Key) × (stops x ≡ Some y)) → {xs : List Key} → In x xs → xs ≡ k ∷ ks → (y : Key) × (stops x ≡ Some y)
      go below (first {xs = ys}) e = let q : k ≡ x = cc in (i, ap stops (sym q) ∙ s)
      go below (after {xs = ys} h) e = let q : ys ≡ ks = cc in below (subst (In x) q h)

  -- it ends where it begins, or at a stop
  pub chain_end : {k j : Key} {path : List Key} → Chain stops k path j → ((path ≡ []) × (k ≡ j)) ⊎ ((i : Key) × (stops i ≡ Some j))
  chain_end stay = inl (refl, refl)
  chain_end (step {k = k} s c) = inr (last_stop s c)
    where
      last_stop : {k i j : Key} {path : List Key} → stops k ≡ Some i → Chain stops i path j → (x : Key) × (stops x ≡ Some j)
      last_stop {k = k} s stay = (k, s)
      last_stop s (step t c) = last_stop t c

  pub shows_on : (records : Records) {k j : Key} {path : List Key} {v : Value} → Chain stops k path j → Shows stops records j v → Shows stops records k v
  shows_on records {path = path} c s = record { before = path ++ s.before; m = s.m; comes = chain_on c s.comes; ends = s.ends }

in_parts : {X : Type 0} {x : X} {xs : List X} → In x xs → (pre : List X) × (suf : List X) × (xs ≡ pre ++ x ∷ suf)
in_parts (first {xs = xs}) = ([], xs, refl)
in_parts (after {y = y} i) = let r = in_parts i in (y ∷ r.0, r.1, ap (λ zs. y ∷ zs) r.2)

differ_right : {X : Type 0} (xs ys : List X) → AllDiffer (xs ++ ys) → AllDiffer ys
differ_right [] ys h = h
differ_right (x ∷ xs) ys h = differ_right xs ys h.1

-- a walk is under way
pub record IsWalking (old now : Stops) (start : Key) (path : List Key) (at : Key) : Type 0 where
  pub chain : Chain (stop_at old) start path at
  pub differ : AllDiffer path
  pub gone : (k : Key) → In k path → stop_at now k ≡ None
  pub stays : (k : Key) → (In k path → ⊥) → stop_at now k ≡ stop_at old k

pub walks_on : (old now later : Stops) (start : Key) (path : List Key) (at next : Key) → IsWalking old now start path at → Some next ≡ stop_at now at → Updates key_cmp now later at None → IsWalking old later start (path ++ at ∷ []) next
walks_on old now later start path at next w e u = record {
  chain = chain_snoc (stop_at old) w.chain (sym (w.stays at fresh) ∙ sym e);
  differ = differ_snoc path at w.differ (λ y i q. fresh (subst (λ z. In z path) q i));
  gone = λ k i. elim (snoc_in path i) [
    | inl a ↦ elim (decide_key at k) [ inl q ↦ ap (stop_at later) (sym q) ∙ u.1 | inr n ↦ other_key now later at None u k n ∙ w.gone k a ]
    | inr q ↦ ap (stop_at later) q ∙ u.1
  ];
  stays = λ k n. other_key now later at None u k (λ q. n (subst (λ z. In z (path ++ at ∷ [])) q (in_right path first))) ∙ w.stays k (λ i. n (in_left (at ∷ []) i));
}
  where
    fresh : In at path → ⊥
    fresh i = none_some (sym (w.gone at i) ∙ sym e)

pub walk_begins : (old : Stops) (start at : Key) (path : List Key) → path ≡ [] → at ≡ start → IsWalking old old start path at
walk_begins old start at path e q = subst (λ xs. IsWalking old old start xs at) (sym e) (subst (λ y. IsWalking old old start [] y) (sym q)
    (record { chain = stay; differ = tt; gone = λ k i. elim i [ ]; stays = λ k n. refl }))

pub walk_ends : (old now later : Stops) (start : Key) (path : List Key) (at : Key) → IsWalking old now start path at → None ≡ stop_at now at → Updates key_cmp now later at None → HasWalked old later start path at
walk_ends old now later start path at w e u = record {
  chain = w.chain;
  differ = w.differ;
  gone = λ k i. elim (decide_key at k) [ inl q ↦ ap (stop_at later) (sym q) ∙ u.1 | inr n ↦ other_key now later at None u k n ∙ w.gone k i ];
  stays = λ k n. elim (decide_key at k) [
    | inl q ↦ ap (stop_at later) (sym q) ∙ u.1 ∙ e ∙ ap (stop_at now) q ∙ w.stays k n
    | inr d ↦ other_key now later at None u k d ∙ w.stays k n
  ];
  over = u.1;
}

-- the value of a path's end is shown by all of its keys
module _ (all : Key → Option Key) (records : Records) (stall : IsStall all records) (left later : Stops) (shown more : CycleValues) (start : Key) (path : List Key) (end : Key) (v : Value)
    (h : IsShowing all records left shown) (has : (j : Key) × (all start ≡ Some j)) (w : HasWalked left later start path end)
    (e : EndsWith (shown_at shown end) (value_in (records end)) path end v) (a : ShowsAll shown more path v) where
  some_all : (k i : Key) → stop_at left k ≡ Some i → all k ≡ Some i
  some_all k i f = go (all k) refl
    where
      go : (o : Option Key) → all k ≡ o → all k ≡ Some i
      go None n = absurd (none_some (sym (h.none k n).0 ∙ f))
      go (Some j) s = elim (h.split k j s) [
        | inl x ↦ s ∙ sym x.0 ∙ f
        | inr x ↦ absurd (none_some (sym x.0 ∙ f))
      ]

  chain_all : {k j : Key} {p : List Key} → Chain (stop_at left) k p j → Chain all k p j
  chain_all stay = stay
  chain_all (step {k = k} {i = i} s c) = step (some_all k i s) (chain_all c)

  the_chain : Chain all start path end
  the_chain = chain_all w.chain

  shown_there : (u : Value) → shown_at shown end ≡ Some u → v ≡ u
  shown_there u f = subst (λ o. EndsWith o (value_in (records end)) path end v) f e

  settled_there : (u : Value) → shown_at shown end ≡ None → value_in (records end) ≡ Some u → v ≡ u
  settled_there u f g = subst (λ o. EndsWith None o path end v) g (subst (λ o. EndsWith o (value_in (records end)) path end v) f e)

  loop_there : shown_at shown end ≡ None → value_in (records end) ≡ None → (part : List Key) × IsFrom path end part × (v ≡ cycle part)
  loop_there f g = subst (λ o. EndsWith None o path end v) g (subst (λ o. EndsWith o (value_in (records end)) path end v) f e)

  in_path : (j : Key) → stop_at left end ≡ Some j → In end path
  in_path j f = elim (decide_in end path) [ inl i ↦ i | inr n ↦ absurd (none_some (sym w.over ∙ w.stays end n ∙ f)) ]

  of_loop : (j : Key) → all end ≡ Some j → stop_at left end ≡ Some j → shown_at shown end ≡ None → Shows all records end v
  of_loop j s l n =
      let t = loop_there n (stall end j s).0 in
      let p = t.1 (in_path j l) in
      let q : path ≡ p.0 ++ end ∷ p.1 = p.2 ∙ ap (λ xs. p.0 ++ xs) p.3 in
      record { before = []; m = end; comes = stay; ends = inl (p.1, chain_from all p.0 p.1 path the_chain q, differ_right p.0 (end ∷ p.1) (subst AllDiffer q w.differ), t.2 ∙ ap cycle p.3) }

  of_clean : IsClean records end → shown_at shown end ≡ None → Shows all records end v
  of_clean c n = record { before = []; m = end; comes = stay; ends = inr (c.0, c.1, c.2, settled_there c.0.value n (value_is (records end) c.1)) }
    where
      value_is : (o : Option (Record Key Value)) → o ≡ Some c.0 → value_in o ≡ Some c.0.value
      value_is o f = ap value_in f ∙ go c.0.dirty c.2
        where
          go : (b : Bool) → b ≡ false → present (Some (record c.0 { dirty = b })) ≡ Some c.0.value
          go false x = refl
          go true x = absurd (true_false refl x)

  at_end : Shows all records end v
  at_end = go (all end) refl
    where
      go : (o : Option Key) → all end ≡ o → Shows all records end v
      go (Some j) s = elim (h.split end j s) [
        | inl x ↦ of_loop j s x.0 x.1
        | inr x ↦ subst (Shows all records end) (sym (shown_there x.1.0 x.1.1)) (h.shows end x.1.0 x.1.1)
      ]
      go None n = elim (chain_end all the_chain) [
        | inl x ↦ absurd (none_some (sym n ∙ ap all (sym x.1) ∙ has.1))
        | inr x ↦ elim (stall x.0 end x.1).1 [
          | inl y ↦ absurd (none_some (sym n ∙ y.1))
          | inr c ↦ of_clean c (h.none end n).1
        ]
      ]

  on_path : (k : Key) → In k path → Shows all records k v
  on_path k i = let p = in_parts i in shows_on all records (chain_from all p.0 p.1 path the_chain p.2) at_end

  pub start_shows : Shows all records start v
  start_shows = shows_on all records the_chain at_end

  pub showing_more : IsShowing all records later more
  showing_more = record {
    split = λ k j s. elim (decide_in k path) [
      | inl i ↦ inr (w.gone k i, (v, a.there k i))
      | inr n ↦ elim (h.split k j s) [
        | inl x ↦ inl (w.stays k n ∙ x.0, a.others k n ∙ x.1)
        | inr x ↦ inr (w.stays k n ∙ x.0, (x.1.0, a.others k n ∙ x.1.1))
      ]
    ];
    none = λ k f. let n : In k path → ⊥ = λ i. let m = chain_member all the_chain k i in none_some (sym f ∙ m.1) in
        let x = h.none k f in (w.stays k n ∙ x.0, a.others k n ∙ x.1);
    shows = λ k u f. elim (decide_in k path) [
      | inl i ↦ subst (Shows all records k) (some_is (sym (a.there k i) ∙ f)) (on_path k i)
      | inr n ↦ h.shows k u (sym (a.others k n) ∙ f)
    ];
  }

-- one more key shows the value
pub shows_snoc : (old now later : CycleValues) (path : List Key) (k : Key) (w : Arc Value Global) (v : Value) → arc_value w ≡ v → ShowsAll old now path v → Updates key_cmp now later k (Some w) → ShowsAll old later (path ++ k ∷ []) v
shows_snoc old now later path k w v q s u = record {
  there = λ j i. elim (decide_key k j) [
    | inl e ↦ ap (shown_at later) (sym e) ∙ ap (λ o. option_map (λ x. arc_value x) o) u.1 ∙ ap (λ x. Some x) q
    | inr n ↦ elim (snoc_in path i) [
      | inl m ↦ ap (λ o. option_map (λ x. arc_value x) o) (other_key now later k (Some w) u j n) ∙ s.there j m
      | inr e ↦ absurd (n (sym e))
    ]
  ];
  others = λ j n. ap (λ o. option_map (λ x. arc_value x) o) (other_key now later k (Some w) u j (λ e. n (subst (λ y. In y (path ++ k ∷ [])) e (in_right path first))))
      ∙ s.others j (λ i. n (in_left (k ∷ []) i));
}

pub shows_none : (old : CycleValues) (v : Value) → ShowsAll old old [] v
shows_none old v = record { there = λ k i. elim i [ ]; others = λ k n. refl }

-- the key is at a place of the path
pub found_from : (path : List Key) (i : ℕ) (x k : Key) → x ≡ slice_index_or path i x → i < length path → x ≡ k → IsFrom path k (drop i path)
found_from path i x k e h q = λ m. let d : drop i path ≡ x ∷ drop (i + 1) path = rest_at path i x e h in
    (take i path, drop (i + 1) path, sym (take-append-drop i path), d ∙ ap (λ y. y ∷ drop (i + 1) path) q)

-- and it was not at the places before
pub not_before : (path : List Key) (i : ℕ) (x k : Key) → x ≡ slice_index_or path i x → i < length path → (x ≡ k → ⊥) → (In k (take i path) → ⊥) → In k (take (i + 1) path) → ⊥
not_before path i x k e h n f m = elim (snoc_in (take i path) (subst (In k) (taken_next path i x e h) m)) [ inl a ↦ f a | inr q ↦ n (sym q) ]

rest_length : {X : Type 0} (xs : List X) (i : ℕ) → length (drop i xs) ≤ length xs - i
rest_length xs zero = omega arith
rest_length [] (suc i) = omega arith
rest_length (x ∷ xs) (suc i) = let h = rest_length xs i in omega (arith, h)

-- all of the rest is taken
pub rest_taken : {X : Type 0} (xs : List X) (i : ℕ) → take (length xs - i) (drop i xs) ≡ drop i xs
rest_taken xs i = take_whole (drop i xs) (length xs - i) (rest_length xs i)

-- entries are made of closed nodes, the last first: of `all`, the rest is left
pub record IsListing (stops : Key → Option Key) (records : Records) (all rest : List Closing) (entries : List Entry) : Type 0 where
  pub each : (e : Entry) → In e entries → (c : Closing) × In c all × (e.key ≡ c.key) × (entry_groups e ≡ items_of c.groups.items) × Shows stops records e.key (arc_value e.value)
  pub has : (c : Closing) → In c all → In c rest ⊎ In c.key (keys_of entries)
  pub differ : AllDiffer (keys_of entries)
  pub within : (c : Closing) → In c rest → In c all
  pub rest_differ : AllDiffer (closing_keys rest)
  pub apart : (c : Closing) → In c rest → In c.key (keys_of entries) → ⊥

snoc_differ : (xs : List Key) (x : Key) → AllDiffer (xs ++ x ∷ []) → AllDiffer xs × ((y : Key) → In y xs → y ≢ x)
snoc_differ [] x d = (tt, λ y i. elim i [ ])
snoc_differ (z ∷ xs) x d = let r = snoc_differ xs x d.1 in ((left xs d.0, r.0), λ y i. go y i refl r.1)
  where
    left : (ys : List Key) → AllByRecursion (λ j. z ≢ j) (ys ++ x ∷ []) → AllByRecursion (λ j. z ≢ j) ys
    left [] a = tt
    left (y ∷ ys) a = (a.0, left ys a.1)

    z_not : (ys : List Key) → AllByRecursion (λ j. z ≢ j) (ys ++ x ∷ []) → z ≢ x
    z_not [] a = a.0
    z_not (y ∷ ys) a = z_not ys a.1

    go : (y : Key) {ys : List Key} → In y ys → ys ≡ z ∷ xs → ((w : Key) → In w xs → w ≢ x) → y ≢ x
    go y (first {xs = ys}) e f = let q : y ≡ z = cc in λ p. z_not xs d.0 (sym q ∙ p)
    go y (after {xs = ys} i) e f = let q : ys ≡ xs = cc in f y (subst (In y) q i)

pub lists_more : (stops : Key → Option Key) (records : Records) (all rest more : List Closing) (c : Closing) (entries : List Entry) (e : Entry) → IsListing stops records all more entries → more ≡ rest ++ c ∷ []
    → e.key ≡ c.key → entry_groups e ≡ items_of c.groups.items → Shows stops records e.key (arc_value e.value) → IsListing stops records all rest (entries ++ e ∷ [])
lists_more stops records all rest more c entries e h q key groups shows = record {
  each = λ x i. elim (snoc_in entries i) [
    | inl a ↦ h.each x a
    | inr p ↦ subst (λ (y : Entry). (d : Closing) × In d all × (y.key ≡ d.key) × (entry_groups y ≡ items_of d.groups.items) × Shows stops records y.key (arc_value y.value)) (sym p) (c, h.within c last, key, groups, shows)
  ];
  has = λ d i. elim (h.has d i) [
    | inl m ↦ elim (snoc_in rest (subst (In d) q m)) [
      | inl a ↦ inl a
      | inr p ↦ inr (subst (In d.key) (sym keys_snoc) (in_right (keys_of entries) (subst (λ y. In d.key (y ∷ [])) (ap (λ (z : Closing). z.key) p ∙ sym key) first)))
    ]
    | inr k ↦ inr (subst (In d.key) (sym keys_snoc) (in_left (e.key ∷ []) k))
  ];
  differ = subst AllDiffer (sym keys_snoc) (differ_snoc (keys_of entries) e.key h.differ (λ y i p. h.apart c last (subst (λ z. In z (keys_of entries)) (p ∙ key) i)));
  within = λ d i. h.within d (subst (In d) (sym q) (in_left (c ∷ []) i));
  rest_differ = parts.0;
  apart = λ d i k. elim (snoc_in (keys_of entries) (subst (In d.key) keys_snoc k)) [
    | inl a ↦ h.apart d (subst (In d) (sym q) (in_left (c ∷ []) i)) a
    | inr p ↦ parts.1 d.key (map_in (λ (z : Closing). z.key) i) (p ∙ key)
  ];
}
  where
    last : In c more
    last = subst (In c) (sym q) (in_right rest first)

    keys_snoc : keys_of (entries ++ e ∷ []) ≡ keys_of entries ++ e.key ∷ []
    keys_snoc = map_snoc (λ (x : Entry). x.key) entries e

    parts : AllDiffer (closing_keys rest) × ((y : Key) → In y (closing_keys rest) → y ≢ c.key)
    parts = snoc_differ (closing_keys rest) c.key (subst AllDiffer (ap closing_keys q ∙ map_snoc (λ (x : Closing). x.key) rest c) h.rest_differ)

pub listing_begins : (stops : Key → Option Key) (records : Records) (all : List Closing) (entries : List Entry) → entries ≡ [] → AllDiffer (closing_keys all) → IsListing stops records all all entries
listing_begins stops records all entries none d = subst (IsListing stops records all all) (sym none) (record { each = λ e i. elim i [ ]; has = λ c i. inl i; differ = tt; within = λ c i. i; rest_differ = d; apart = λ c i k. elim k [ ] })

pub listing_ends : (stops : Key → Option Key) (records : Records) (all rest : List Closing) (entries : List Entry) → rest ≡ [] → IsListing stops records all rest entries → AreEntries stops records all entries
listing_ends stops records all rest entries none h = record {
  each = h.each;
  has = λ c i. elim (h.has c i) [ inl m ↦ elim (subst (In c) none m) [ ] | inr k ↦ k ];
  differ = h.differ;
}

pub showing_begins : (stops : Key → Option Key) (left : Stops) (records : Records) (shown : CycleValues) → ((k : Key) → stops k ≡ stop_at left k) → shown.entries ≡ [] → IsShowing stops records left shown
showing_begins stops left records shown same none = record {
  split = λ k j e. inl (sym (same k) ∙ e, nothing k);
  none = λ k e. (sym (same k) ∙ e, nothing k);
  shows = λ k v e. absurd (none_some (sym (nothing k) ∙ e));
}
  where
    nothing : (k : Key) → shown_at shown k ≡ None
    nothing k = ap (λ o. option_map (λ x. arc_value x) o) (empty_has shown none k)
