-- Records that are put at the keys of several entries, and their edges.
use Rattle.std.proofs.Common.{◌≡◌, ◌≢◌, ◌⊎◌, inl, inr, ℕ, ◌+◌, ◌<◌, ◌≤◌, ◌↔◌, arith, List, [], ◌∷◌, ◌++◌, length, take, drop, add-one, slice_index_or, Option, Some, None, refl, sym, ◌∙◌, ap, subst}
use Rattle.std.specs.List.{AllByRecursion}
use Rattle.std.specs.Option.{option_to_list, is_some, IsSome, unwrap_or}
use Rattle.std.proofs.lemmas.List.{map-append, append-nil, append_assoc, length-append, same_from_push}
use Rattle.std.proofs.Math.ListN.{take-append-drop}
use Rattle.std.proofs.Math.Seq.{take-suc, take_all}
use Rattle.engine_semantics.specs.Graph.{Record}
use Rattle.engine_semantics.specs.Value.{AllDiffer, In, first, after, IsMember}
use Rattle.keys.specs.declared.key.Key.{Key}
use Rattle.keys.specs.declared.value.Value.{Value}
use Rattle.node.specs.declared.records.NodeRecord.{NodeRecord}
use Rattle.node.specs.declared.entry.Entry.{Entry}
use Rattle.std.specs.Arc.{arc_value}
use Rattle.std.specs.Prelude.{All, map, position}
use Rattle.keys.specs.Keys.{key_eq}
use Rattle.std.specs.Map.{keys_of as keys_of_records}
use Rattle.node_table.specs.Tables.{AreDistinct}
use Rattle.node_table.specs.Flats.{HaveNumbers, groups_in, numbers_in}
use Rattle.node_table.proofs.Flats.{groups_back}
use Rattle.node.specs.Records.{Records, Users, kept_at, keys_at, users_at}
use Rattle.node.proofs.Numbering.{groups_below, have_numbers, same_length}
use Rattle.node.proofs.Showing.{some_kept}
use Rattle.node.specs.Edges.{HasLinkedSome, HasLinkedAll, HasCut, HasUsers}
use Rattle.node.specs.Writes.{settled_record, groups_at}
use Rattle.node.specs.Graphs.{Sets, records_of}
use Rattle.node.specs.Batches.{entry_groups, keys_of, HasPlacedSome, IsThere, HasPlacedAll, HasLinkedEntries, HasLinkedEach, kept_members, HasCutAll, IsToWrite, IsWritten, IsWriting, HasReadyFlat, flats_in}
use Rattle.node.proofs.Lists.{in_split, in_left, in_right, in_one, not_in, none_of, true_false, decide_key}
use Rattle.node.proofs.Joining.{in_taken, is_in}
use Rattle.node.proofs.Rewriting.{decide_member}

-- keys that differ
all_left : (P : Key → Type 0) (xs ys : List Key) → AllByRecursion P (xs ++ ys) → AllByRecursion P xs
all_left P [] ys a = tt
all_left P (x ∷ xs) ys a = (a.0, all_left P xs ys a.1)

all_right : (P : Key → Type 0) (xs ys : List Key) → AllByRecursion P (xs ++ ys) → AllByRecursion P ys
all_right P [] ys a = a
all_right P (x ∷ xs) ys a = all_right P xs ys a.1

pub differ_left : (xs ys : List Key) → AllDiffer (xs ++ ys) → AllDiffer xs
differ_left [] ys d = tt
differ_left (x ∷ xs) ys d = (all_left (λ j. x ≢ j) xs ys d.0, differ_left xs ys d.1)

pub differ_apart : {k : Key} (xs : List Key) (x : Key) (ys : List Key) → AllDiffer (xs ++ x ∷ ys) → In k xs → k ≢ x
differ_apart [] x ys d i = elim i [ ]
differ_apart (y ∷ xs) x ys d first = (all_right (λ j. y ≢ j) xs (x ∷ ys) d.0).0
differ_apart (y ∷ xs) x ys d (after i) = differ_apart xs x ys d.1 i

-- an entry by its key
in_cons : {X : Type 0} {k x : X} {xs : List X} → In k (x ∷ xs) → (x ≡ k) ⊎ In k xs
in_cons first = inl refl
in_cons (after i) = inr i

pub entry_of : {k : Key} (entries : List Entry) → In k (keys_of entries) → (e : Entry) × In e entries × (e.key ≡ k)
entry_of [] i = elim i [ ]
entry_of (e ∷ entries) i = elim (in_cons i) [
  | inl q ↦ (e, first, q)
  | inr a ↦ let p = entry_of entries a in (p.0, after p.1, p.2)
]

pub key_in : {e : Entry} {entries : List Entry} → In e entries → In e.key (keys_of entries)
key_in first = first
key_in (after i) = after (key_in i)

pub decide_in : (keys : List Key) (k : Key) → In k keys ⊎ (In k keys → ⊥)
decide_in [] k = inr (λ i. not_in i refl)
decide_in (x ∷ keys) k = elim (decide_key x k) [
  | inl q ↦ inl (subst (λ y. In y (x ∷ keys)) q first)
  | inr n ↦ elim (decide_in keys k) [ inl i ↦ inl (after i) | inr f ↦ inr (λ i. elim (in_cons i) [ inl q ↦ n q | inr a ↦ f a ]) ]
]

all_in : (P : Key → Type 0) {k : Key} {keys : List Key} → AllByRecursion P keys → In k keys → P k
all_in P a first = a.0
all_in P a (after i) = all_in P a.1 i

-- no two entries have one key
pub same_entry : {x y : Entry} (entries : List Entry) → AllDiffer (keys_of entries) → In x entries → In y entries → x.key ≡ y.key → x ≡ y
same_entry [] d i j q = elim i [ ]
same_entry (e ∷ entries) d i j q = elim (in_cons i) [
  | inl a ↦ elim (in_cons j) [
    | inl b ↦ sym a ∙ b
    | inr b ↦ absurd (all_in (λ k. e.key ≢ k) d.0 (key_in b) (ap (λ (z : Entry). z.key) a ∙ q))
  ]
  | inr a ↦ elim (in_cons j) [
    | inl b ↦ absurd (all_in (λ k. e.key ≢ k) d.0 (key_in a) (ap (λ (z : Entry). z.key) b ∙ sym q))
    | inr b ↦ same_entry entries d.1 a b q
  ]
]

-- one more entry of a list
module _ (entries : List Entry) (n : ℕ) (x : Entry) (e : x ≡ slice_index_or entries n x) (h : n < length entries) where
  these : take (n + 1) entries ≡ take n entries ++ x ∷ []
  these = rw add-one (take-suc entries n x h) ∙ ap (λ y. take n entries ++ y ∷ []) (sym e)

  keys_taken : keys_of (take (n + 1) entries) ≡ keys_of (take n entries) ++ x.key ∷ []
  keys_taken = ap keys_of these ∙ map-append (λ (y : Entry). y.key) (take n entries) (x ∷ [])

  taken_differ : AllDiffer (keys_of entries) → AllDiffer (keys_of (take n entries) ++ x.key ∷ [])
  taken_differ d =
      let split : keys_of entries ≡ keys_of (take (n + 1) entries) ++ keys_of (drop (n + 1) entries) =
      ap keys_of (sym (take-append-drop (n + 1) entries)) ∙ map-append (λ (y : Entry). y.key) (take (n + 1) entries) (drop (n + 1) entries) in
      subst AllDiffer keys_taken (differ_left (keys_of (take (n + 1) entries)) (keys_of (drop (n + 1) entries)) (subst AllDiffer split d))

  pub taken_apart : AllDiffer (keys_of entries) → {k : Key} → In k (keys_of (take n entries)) → k ≢ x.key
  taken_apart d i = differ_apart (keys_of (take n entries)) x.key [] (taken_differ d) i

  pub key_before : {k : Key} → In k (keys_of (take n entries)) → In k (keys_of (take (n + 1) entries))
  key_before {k} i = subst (In k) (sym keys_taken) (in_left (x.key ∷ []) i)

  pub key_now : In x.key (keys_of (take (n + 1) entries))
  key_now = subst (In x.key) (sym keys_taken) (in_right (keys_of (take n entries)) first)

-- a record is put after the others
pub placed_more : (original old new : Records) (x : Key × NodeRecord) → new ≡ old ++ x ∷ [] → HasPlacedSome original old → HasPlacedSome original new
placed_more original old new x e h = (h.0 ++ x ∷ [], e ∙ ap (λ (es : Records). es ++ x ∷ []) h.1 ∙ append_assoc original h.0 (x ∷ []))

there_later : (start old new : Key → Option (Record Key Value)) (e : Entry) (version : ℕ) → new e.key ≡ old e.key → IsThere start old e version → IsThere start new e version
there_later start old new e version q (inl t) = inl (t.0, t.1, q ∙ t.2)
there_later start old new e version q (inr t) = inr (t.0, q ∙ t.1)

there_since : (start old new : Key → Option (Record Key Value)) (e : Entry) (version : ℕ) → old e.key ≡ start e.key → IsThere old new e version → IsThere start new e version
there_since start old new e version q (inl t) = inl (t.0, sym q ∙ t.1, t.2)
there_since start old new e version q (inr t) = inr (sym q ∙ t.0, t.1)

pub placed_step : (start old new : Key → Option (Record Key Value)) (entries : List Entry) (n : ℕ) (x : Entry) (version : ℕ) → x ≡ slice_index_or entries n x → n < length entries → AllDiffer (keys_of entries)
    → HasPlacedAll start old (take n entries) version → IsThere old new x version → ((k : Key) → x.key ≢ k → new k ≡ old k) → HasPlacedAll start new (take (n + 1) entries) version
placed_step start old new entries n x version e h d all there others = record {
  there = λ y i. elim (in_taken entries n x y e h i) [
    | inl a ↦ there_later start old new y version (others y.key (λ q. taken_apart entries n x e h d (key_in a) (sym q))) (all.there y a)
    | inr q ↦ subst (λ (z : Entry). IsThere start new z version) q (there_since start old new x version (all.others x.key (λ i. taken_apart entries n x e h d i refl)) there)
  ];
  others = λ k f. others k (λ q. f (subst (λ z. In z (keys_of (take (n + 1) entries))) q (key_now entries n x e h))) ∙ all.others k (λ i. f (key_before entries n x e h i));
}

-- the last record is removed, while there are more than the first ones
popped_last : (original more new : Records) (x : Key × NodeRecord) → original ++ more ≡ new ++ x ∷ [] → length original < length (original ++ more) → HasPlacedSome original new
popped_last [] more new x e h = (new, refl)
popped_last (o ∷ original) more [] x e h = absurd (omega (arith, ap length e, length-append (o ∷ original) more))
popped_last (o ∷ original) more (n ∷ new) x e h =
    let rest : original ++ more ≡ new ++ x ∷ [] = cc in
    let head : o ≡ n = cc in
    let p = popped_last original more new x rest (omega arith) in
    (p.0, λ i. sym head i ∷ p.1 i)

pub removed_last : (original old new : Records) (out : Option (Key × NodeRecord)) → old ≡ new ++ option_to_list out → (IsSome out ↔ (0 < length old)) → length original < length old → HasPlacedSome original old → HasPlacedSome original new
removed_last original old new out r f l h = go out refl
  where
    go : (o : Option (Key × NodeRecord)) → out ≡ o → HasPlacedSome original new
    go None q = absurd (true_false (f.1 (omega arith)) (ap is_some q))
    go (Some x) q = popped_last original h.0 new x (sym h.1 ∙ r ∙ ap (λ o. new ++ option_to_list o) q) (omega (arith, ap length h.1))

pub all_removed : (original records : Records) → length records ≤ length original → HasPlacedSome original records → records ≡ original
all_removed original records l h = h.1 ∙ ap (λ (es : Records). original ++ es) (none_of h.0 (omega (arith, ap length h.1, length-append original h.0))) ∙ append-nil original

module _ (start old new : Users) (entries : List Entry) (n : ℕ) (x : Entry) (e : x ≡ slice_index_or entries n x) (h : n < length entries)
    (groups : List (List Key)) (g : groups ≡ entry_groups x) (some : HasLinkedSome old new x.key (λ j. IsMember j groups)) where
  pub entries_linked : HasLinkedEntries start old entries → HasLinkedEntries start new entries
  entries_linked l = record {
    from = λ j k i. elim (some.from j k i) [
      | inl a ↦ l.from j k a
      | inr p ↦ inr (x, is_in entries n x e h, p.1, subst (IsMember j) g p.0)
    ];
    keeps = λ j k i. some.keeps j k (l.keeps j k i);
  }

  pub entries_each : HasLinkedAll new x.key (λ j. IsMember j groups) → HasLinkedEach old (take n entries) → HasLinkedEach new (take (n + 1) entries)
  entries_each all each y i j m = elim (in_taken entries n x y e h i) [
    | inl a ↦ some.keeps j y.key (each y a j m)
    | inr q ↦ subst (λ (z : Entry). In z.key (users_at new j)) q (all j (subst (IsMember j) (sym g) (subst (λ (z : Entry). IsMember j (entry_groups z)) (sym q) m)))
  ]

pub all_entries : (users : Users) (entries : List Entry) (n : ℕ) → length entries ≤ n → HasLinkedEach users (take n entries) → HasLinkedEach users entries
all_entries users entries n h each = subst (HasLinkedEach users) (take_all n entries h) each

-- the members of a key's record
members_at : (records : Key → Option (Record Key Value)) (k j : Key) (o : Option (Record Key Value)) → records k ≡ o → IsMember j (groups_at o) → kept_members records k j
members_at records k j None h m = absurd (not_in m.1 refl)
members_at records k j (Some w) h m = (w, h, m)

pub kept_member : (records : Key → Option (Record Key Value)) (k j : Key) → IsMember j (groups_at (records k)) → kept_members records k j
kept_member records k j m = members_at records k j (records k) refl m

pub member_kept : (records : Key → Option (Record Key Value)) (k j : Key) → kept_members records k j → IsMember j (groups_at (records k))
member_kept records k j p = subst (λ o. IsMember j (groups_at o)) (sym p.1) p.2

pub cut_step : (records : Key → Option (Record Key Value)) (start old new : Users) (entries : List Entry) (n : ℕ) (x : Entry) → x ≡ slice_index_or entries n x → n < length entries
    → (groups keep : List (List Key)) → groups ≡ entry_groups x → keep ≡ groups_at (records x.key) → HasCut old new x.key (λ j. IsMember j groups) (λ j. IsMember j keep)
    → HasCutAll records start old (take n entries) → HasCutAll records start new (take (n + 1) entries)
cut_step records start old new entries n x e h groups keep g p cut all = record {
  from = λ j k i. all.from j k (cut.from j k i);
  gone = λ y i j m f u. elim (in_taken entries n x y e h i) [
    | inl a ↦ all.gone y a j m f (cut.from j y.key u)
    | inr q ↦ cut.gone j (subst (IsMember j) (sym g) (subst (λ (z : Entry). IsMember j (entry_groups z)) (sym q) m))
        (λ t. f (subst (λ (z : Entry). kept_members records z.key j) q (kept_member records x.key j (subst (IsMember j) p t)))) (subst (λ (z : Entry). In z.key (users_at new j)) (sym q) u)
  ];
  kept = λ j k i m. elim (decide_key x.key k) [
    | inl q ↦ subst (λ z. In z (users_at new j)) q (cut.kept j (subst (IsMember j) (sym p) (member_kept records x.key j (subst (λ z. kept_members records z j) (sym q) m))) (subst (λ z. In z (users_at old j)) (sym q) (all.kept j k i m)))
    | inr d ↦ cut.others j k d (all.kept j k i m)
  ];
}

-- the reverse dependencies of an entry that is written
pub written_users : (records : Key → Option (Record Key Value)) (old new : Users) (e : Entry) (w : Record Key Value) → IsToWrite records old e w → (cut_groups keep : List (List Key)) → cut_groups ≡ w.groups → keep ≡ entry_groups e
    → HasCut old new e.key (λ j. IsMember j cut_groups) (λ j. IsMember j keep) → HasUsers old new e.key (entry_groups e)
written_users records old new e w t cut_groups keep g p cut = record {
  own = λ j i. elim (t.own j (cut.from j e.key i)) [
    | inl m ↦ elim (decide_member (entry_groups e) j) [
      | inl a ↦ a
      | inr n ↦ absurd (cut.gone j (subst (IsMember j) (sym g) m) (λ a. n (subst (IsMember j) p a)) i)
    ]
    | inr m ↦ m
  ];
  has = λ j m. cut.kept j (subst (IsMember j) (sym p) m) (t.has j m);
  others = λ j k n i. cut.from j k i;
  kept = λ j k n i. cut.others j k n i;
}

-- one more entry is written
module _ (start old new : Key → Option (Record Key Value)) (start_users old_users users : Users) (entries now rest : List Entry) (x : Entry) (version : ℕ) (e : now ≡ rest ++ x ∷ [])
    (s : IsWriting start old start_users old_users entries now version)
    (updates : Sets old new x.key (settled_record (old x.key) (arc_value x.value) (entry_groups x) version))
    (uses : HasUsers old_users users x.key (entry_groups x)) where
  keys_split : keys_of now ≡ keys_of rest ++ x.key ∷ []
  keys_split = ap keys_of e ∙ map-append (λ (y : Entry). y.key) rest (x ∷ [])

  x_left : In x now
  x_left = subst (In x) (sym e) (in_right rest first)

  had : (w : Record Key Value) × (start x.key ≡ Some w) × IsToWrite old old_users x w
  had = s.left x x_left

  changed : new x.key ≡ Some (settled_record (Some had.0) (arc_value x.value) (entry_groups x) version)
  changed = updates.there ∙ ap (λ o. Some (settled_record o (arc_value x.value) (entry_groups x) version)) had.2.there

  other : (k : Key) → x.key ≢ k → new k ≡ old k
  other k n = updates.others k n

  apart : {y : Entry} → In y rest → x.key ≢ y.key
  apart i q = differ_apart (keys_of rest) x.key [] (subst AllDiffer keys_split s.differ) (key_in i) (sym q)

  still_left : (y : Entry) → In y rest → (w : Record Key Value) × (start y.key ≡ Some w) × IsToWrite new users y w
  still_left y i =
      let p = s.left y (subst (In y) (sym e) (in_left (x ∷ []) i)) in
      let t = p.2 in (
        p.0,
        p.1,
        record {
          there = other y.key (apart i) ∙ t.there;
          own = λ j u. t.own j (uses.others j y.key (apart i) u);
          old_has = λ j m. uses.kept j y.key (apart i) (t.old_has j m);
          has = λ j m. uses.kept j y.key (apart i) (t.has j m);
        },
      )

  is_written : (w : Record Key Value) × (start x.key ≡ Some w) × IsWritten new users x version w
  is_written = (had.0, had.1, record { there = changed; own = uses.own; has = uses.has })

  still_written : (y : Entry) → x.key ≢ y.key → (w : Record Key Value) × (start y.key ≡ Some w) × IsWritten old old_users y version w → (w : Record Key Value) × (start y.key ≡ Some w) × IsWritten new users y version w
  still_written y n p = let t = p.2 in
      (p.0, p.1, record { there = other y.key n ∙ t.there; own = λ j u. t.own j (uses.others j y.key n u); has = λ j m. uses.kept j y.key n (t.has j m) })

  pub write_step : AllDiffer (keys_of entries) → IsWriting start new start_users users entries rest version
  write_step d = record {
    differ = differ_left (keys_of rest) (x.key ∷ []) (subst AllDiffer keys_split s.differ);
    within = λ y i. s.within y (subst (In y) (sym e) (in_left (x ∷ []) i));
    left = still_left;
    done = λ y i. elim (decide_key x.key y.key) [
      | inl q ↦ inr (subst (λ (z : Entry). (w : Record Key Value) × (start z.key ≡ Some w) × IsWritten new users z version w) (same_entry entries d (s.within x x_left) i q) is_written)
      | inr n ↦ elim (s.done y i) [
        | inl a ↦ elim (in_split a rest (x ∷ []) e) [ inl b ↦ inl b | inr b ↦ absurd (n (ap (λ (z : Entry). z.key) (sym (in_one b)))) ]
        | inr p ↦ inr (still_written y n p)
      ]
    ];
    others = λ k f. let t = s.others k f in let n : x.key ≢ k = λ q. f (subst (λ z. In z (keys_of entries)) q (key_in (s.within x x_left))) in
        record { record_same = other k n ∙ t.record_same; from = λ j u. t.from j (uses.others j k n u); keeps = λ j u. uses.kept j k n (t.keeps j u) };
  }

-- the groups of entries, by the numbers of their members
pub one_have : (records : Records) (x : Entry) → ((j : Key) → IsMember j (entry_groups x) → IsSome (records_of records j)) → HaveNumbers records (entry_groups x)
one_have records x f = have_numbers records (entry_groups x) (λ j m. let e = some_kept (keys_of_records records) (kept_at records j) (f j m) in ap is_some e.1)

pub flats_same : (old new : Records) → keys_of_records new ≡ keys_of_records old → (entries : List Entry) → flats_in new entries ≡ flats_in old entries
flats_same old new e entries = ap (λ (ks : List Key). map (λ (x : Entry). map (λ (g : List Key). map (λ k. unwrap_or (position (key_eq k) ks) 0) g) (entry_groups x)) entries) e

pub flats_more : (records : Records) (entries : List Entry) (n : ℕ) (x : Entry) → x ≡ slice_index_or entries n x → n < length entries → (flats more : List (List (List ℕ))) (flat : List (List ℕ)) (groups : List (List Key)) → groups ≡ entry_groups x
    → flat ≡ map (numbers_in records) groups → more ≡ flats ++ flat ∷ [] → flats ≡ flats_in records (take n entries) → more ≡ flats_in records (take (n + 1) entries)
flats_more records entries n x e h flats more flat groups g f p i =
    p ∙ (λ y. i y ++ (f ∙ ap (map (numbers_in records)) g) y ∷ [])
    ∙ sym (map-append (λ (z : Entry). map (numbers_in records) (entry_groups z)) (take n entries) (x ∷ [])) ∙ ap (flats_in records) (sym (these entries n x e h))

pub flats_last : (records : Records) (now rest : List Entry) (x : Entry) (flats more : List (List (List ℕ))) (flat : List (List ℕ)) → now ≡ rest ++ x ∷ [] → flats ≡ flats_in records now → flats ≡ more ++ flat ∷ []
    → (more ≡ flats_in records rest) × (flat ≡ map (numbers_in records) (entry_groups x))
flats_last records now rest x flats more flat e f p =
    let joined : more ++ flat ∷ [] ≡ flats_in records rest ++ map (numbers_in records) (entry_groups x) ∷ [] =
    sym p ∙ f ∙ ap (flats_in records) e ∙ map-append (λ (z : Entry). map (numbers_in records) (entry_groups z)) rest (x ∷ []) in
    same_from_push more (flats_in records rest) flat (map (numbers_in records) (entry_groups x)) joined

pub ready_flat : (start now : Records) (x : Entry) (flat : List (List ℕ)) → AreDistinct start → keys_of_records now ≡ keys_of_records start → HaveNumbers start (entry_groups x) → flat ≡ map (numbers_in start) (entry_groups x) → HasReadyFlat now x flat
ready_flat start now x flat d e have f = record {
  groups = (λ i. map (keys_at (e i)) flat) ∙ ap (groups_in start) f ∙ groups_back start d (entry_groups x) have;
  within = subst (λ l. All (All (λ n. n < l)) flat) (sym (same_length start now e)) (subst (All (All (λ n. n < length start))) (sym f) (groups_below start d (entry_groups x) have));
}
