-- What a batch comes to: all of its records are stored, or nothing has changed.
use Rattle.std.proofs.Common.{◌≡◌, ◌⊎◌, inl, inr, ℕ, true, false, List, [], Option, Some, None, refl, sym, ◌∙◌, ap, subst}
use Rattle.std.specs.Arc.{arc_value}
use Rattle.std.specs.Option.{is_some, IsSome}
use Rattle.engine_semantics.specs.Graph.{Record}
use Rattle.engine_semantics.specs.Value.{AllDiffer, In, IsMember}
use Rattle.keys.specs.declared.key.Key.{Key}
use Rattle.keys.specs.declared.value.Value.{Value}
use Rattle.node.specs.declared.entry.Entry.{Entry}
use Rattle.node.specs.Records.{Records, Users, users_at}
use Rattle.node.specs.Writes.{settled_record, groups_at, SameSets}
use Rattle.node.specs.Graphs.{GraphView, recorded, record_at, records_of, IsLinked}
use Rattle.node.specs.Batches.{AreRecorded, entry_groups, keys_of, HasReadyEntries, HaveMembers, SetsAll, IsThere, HasPlacedAll, HasLinkedEntries, HasLinkedEach, kept_members, HasCutAll, IsToWrite, IsWritten, HasWrittenAll, IsWriting}
use Rattle.node.proofs.Lists.{not_in, none_some, some_is, true_false}
use Rattle.node.proofs.Linking.{seen_all}
use Rattle.node.proofs.Storing.{seen_was, stored_over}
use Rattle.node.proofs.Rewriting.{decide_member}
use Rattle.node.proofs.Batching.{entry_of, key_in, decide_in, member_kept, kept_member, same_entry}

-- nothing is written yet, and all is written
module _ (records : Key → Option (Record Key Value)) (users : Users) (entries : List Entry) (version : ℕ) where
  pub writing_begun : AllDiffer (keys_of entries) → ((e : Entry) → In e entries → (w : Record Key Value) × IsToWrite records users e w) → IsWriting records records users users entries entries version
  writing_begun d ready = record {
    differ = d;
    within = λ e i. i;
    left = λ e i. let p = ready e i in let t = p.1 in (p.0, t.there, t);
    done = λ e i. inl i;
    others = λ k f. record { record_same = refl; from = λ j i. i; keeps = λ j i. i };
  }

pub writing_ended : (start now : Key → Option (Record Key Value)) (start_users users : Users) (entries rest : List Entry) (version : ℕ) → rest ≡ [] → IsWriting start now start_users users entries rest version → HasWrittenAll start now start_users users entries version
writing_ended start now start_users users entries rest version e s = record {
  each = λ y i. elim (s.done y i) [ inl a ↦ absurd (not_in a e) | inr p ↦ p ];
  others = s.others;
}

module _ (old placed : Key → Option (Record Key Value)) (old_users middle : Users) (entries : List Entry) (version : ℕ) (linked : IsLinked old old_users)
    (there : HasPlacedAll old placed entries version) (edges : HasLinkedEntries old_users middle entries) where
  -- a key has the groups that it had
  same_members : (k j : Key) → kept_members placed k j → kept_members old k j
  same_members k j p = elim (decide_in (keys_of entries) k) [
    | inl i ↦ let e = entry_of entries i in of_entry e.0 e.2 (there.there e.0 e.1)
    | inr f ↦ (p.0, sym (there.others k f) ∙ p.1, p.2)
  ]
    where
      of_entry : (e : Entry) → e.key ≡ k → IsThere old placed e version → kept_members old k j
      of_entry e q (inl t) = (t.0, ap old (sym q) ∙ t.1, subst (λ (w : Record Key Value). IsMember j w.groups) (some_is (sym p.1 ∙ ap placed (sym q) ∙ t.2)) p.2)
      of_entry e q (inr t) = absurd (not_in p.2.1 (ap (λ (y : Record Key Value). y.groups) (some_is (sym p.1 ∙ ap placed (sym q) ∙ t.1))))

  same_members_back : (k j : Key) → kept_members old k j → kept_members placed k j
  same_members_back k j p = elim (decide_in (keys_of entries) k) [
    | inl i ↦ let e = entry_of entries i in of_entry e.0 e.2 (there.there e.0 e.1)
    | inr f ↦ (p.0, there.others k f ∙ p.1, p.2)
  ]
    where
      of_entry : (e : Entry) → e.key ≡ k → IsThere old placed e version → kept_members placed k j
      of_entry e q (inl t) = (t.0, ap placed (sym q) ∙ t.2, subst (λ (w : Record Key Value). IsMember j w.groups) (some_is (sym p.1 ∙ ap old (sym q) ∙ t.1)) p.2)
      of_entry e q (inr t) = absurd (none_some (sym t.0 ∙ ap old q ∙ p.1))

  member_users : (e : Entry) (j : Key) → IsMember j (groups_at (placed e.key)) → In e.key (users_at old_users j)
  member_users e j m = let p = same_members e.key j (kept_member placed e.key j m) in linked.complete j e.key p.0 p.1 p.2

  -- the edges that were linked are cut again
  pub cut_again : (later : Users) → HasCutAll placed middle later entries → SameSets old_users later
  cut_again later cut j k = (to, back)
    where
      to : In k (users_at later j) → In k (users_at old_users j)
      to i = elim (edges.from j k (cut.from j k i)) [
        | inl a ↦ a
        | inr p ↦ elim (decide_member (groups_at (placed p.0.key)) j) [
          | inl m ↦ let o = same_members p.0.key j (kept_member placed p.0.key j m) in
              subst (λ y. In y (users_at old_users j)) p.2 (linked.complete j p.0.key o.0 o.1 o.2)
          | inr n ↦ absurd (cut.gone p.0 p.1 j p.3 (λ m. n (member_kept placed p.0.key j m)) (subst (λ y. In y (users_at later j)) (sym p.2) i))
        ]
      ]

      back : In k (users_at old_users j) → In k (users_at later j)
      back i = cut.kept j k (edges.keeps j k i) (same_members_back k j (linked.used j k i))

  -- the entries may be written
  pub ready_to_write : AllDiffer (keys_of entries) → HasLinkedEach middle entries → (e : Entry) → In e entries → (w : Record Key Value) × IsToWrite placed middle e w
  ready_to_write d each e i = go (there.there e i)
    where
      own : (w : Record Key Value) → placed e.key ≡ Some w → (j : Key) → In e.key (users_at middle j) → IsMember j w.groups ⊎ IsMember j (entry_groups e)
      own w h j u = elim (edges.from j e.key u) [
        | inl a ↦ let p = same_members_back e.key j (linked.used j e.key a) in inl (subst (λ (y : Record Key Value). IsMember j y.groups) (some_is (sym p.1 ∙ h)) p.2)
        | inr p ↦ inr (subst (λ (y : Entry). IsMember j (entry_groups y)) (same_entry entries d p.1 i p.2) p.3)
      ]

      old_has : (w : Record Key Value) → placed e.key ≡ Some w → (j : Key) → IsMember j w.groups → In e.key (users_at middle j)
      old_has w h j m = let p = same_members e.key j (w, h, m) in edges.keeps j e.key (linked.complete j e.key p.0 p.1 p.2)

      to_write : (w : Record Key Value) → placed e.key ≡ Some w → IsToWrite placed middle e w
      to_write w h = record { there = h; own = own w h; old_has = old_has w h; has = each e i }

      go : IsThere old placed e version → (w : Record Key Value) × IsToWrite placed middle e w
      go (inl t) = (t.0, to_write t.0 t.2)
      go (inr t) = (settled_record None (arc_value e.value) [] version, to_write (settled_record None (arc_value e.value) [] version) t.1)

  -- the entries are written
  module _ (new : Key → Option (Record Key Value)) (users : Users) (wrote : HasWrittenAll placed new middle users entries version) (ready : HasReadyEntries old entries) where
    abbrev Batch : Key → Type 0
    Batch k = In k (keys_of entries)

    -- the record of an entry
    of_key : (k : Key) → Batch k → (e : Entry) × In e entries × (e.key ≡ k) × (w : Record Key Value) × (new k ≡ Some (settled_record (Some w) (arc_value e.value) (entry_groups e) version))
    of_key k i =
        let p = entry_of entries i in
        let q = wrote.each p.0 p.1 in
        let t = q.2 in
        (p.0, p.1, p.2, q.0, ap new (sym p.2) ∙ t.there)

    clean : (k : Key) (x : Record Key Value) → Batch k → new k ≡ Some x → x.dirty ≡ false
    clean k x i h = let p = of_key k i in ap (λ (y : Record Key Value). y.dirty) (some_is (sym h ∙ p.4))

    -- the groups of an entry's record are its own
    asked_by : (k : Key) (x : Record Key Value) → Batch k → new k ≡ Some x → (e : Entry) × In e entries × (e.key ≡ k) × (entry_groups e ≡ x.groups)
    asked_by k x i h = let p = of_key k i in (p.0, p.1, p.2, ap (λ (y : Record Key Value). y.groups) (some_is (sym p.4 ∙ h)))

    -- a key of no entry
    before : (k : Key) → (Batch k → ⊥) → new k ≡ old k
    before k f = let t = wrote.others k f in t.record_same ∙ there.others k f

    same_users : (j k : Key) → (Batch k → ⊥) → In k (users_at users j) → In k (users_at old_users j)
    same_users j k f i = let t = wrote.others k f in elim (edges.from j k (t.from j i)) [
      | inl a ↦ a
      | inr p ↦ absurd (f (subst (λ z. In z (keys_of entries)) p.2 (key_in p.1)))
    ]

    still_kept : (j : Key) (s : Record Key Value) → old j ≡ Some s → (x : Record Key Value) × (new j ≡ Some x)
    still_kept j s h = elim (decide_in (keys_of entries) j) [ inl i ↦ let p = of_key j i in (settled_record (Some p.3) (arc_value p.0.value) (entry_groups p.0) version, p.4) | inr f ↦ (s, before j f ∙ h) ]

    -- a member of an entry's groups is an entry's key, or has a record that is not dirty
    member : (j k : Key) (x : Record Key Value) → Batch k → new k ≡ Some x → IsMember j x.groups → Batch j ⊎ ((s : Record Key Value) × (old j ≡ Some s) × (s.dirty ≡ false))
    member j k x i h m =
        let p = asked_by k x i h in
        elim (ready p.0 p.1 j (subst (IsMember j) (sym p.3) m)) [
          | inl b ↦ inl b
          | inr r ↦ inr r
        ]

    dirty_after : (j k : Key) (x s : Record Key Value) → new k ≡ Some x → IsMember j x.groups → (Batch j → ⊥) → old j ≡ Some s → s.dirty ≡ true → x.dirty ≡ true
    dirty_after j k x s h m f t d = elim (decide_in (keys_of entries) k) [
      | inl i ↦ elim (member j k x i h m) [
        | inl b ↦ absurd (f b)
        | inr r ↦ absurd (true_false d (ap (λ (y : Record Key Value). y.dirty) (some_is (sym t ∙ r.1)) ∙ r.2))
      ]
      | inr g ↦ linked.dirty_above j k x s (sym (before k g) ∙ h) m t d
    ]

    pub batch_linked : IsLinked new users
    batch_linked = record {
      used = λ j k i. elim (decide_in (keys_of entries) k) [
        | inl b ↦
            let p = entry_of entries b in
            let q = wrote.each p.0 p.1 in
            let t = q.2 in
            (settled_record (Some q.0) (arc_value p.0.value) (entry_groups p.0) version, ap new (sym p.2) ∙ t.there, t.own j (subst (λ z. In z (users_at users j)) (sym p.2) i))
        | inr f ↦ let p = linked.used j k (same_users j k f i) in (p.0, before k f ∙ p.1, p.2)
      ];
      complete = λ j k x h m. elim (decide_in (keys_of entries) k) [
        | inl b ↦
            let p = asked_by k x b h in
            let q = wrote.each p.0 p.1 in
            let t = q.2 in
            subst (λ z. In z (users_at users j)) p.2 (t.has j (subst (IsMember j) (sym p.3) m))
        | inr f ↦ let t = wrote.others k f in t.keeps j (edges.keeps j k (linked.complete j k x (sym (before k f) ∙ h) m))
      ];
      members = λ j k x h m. elim (decide_in (keys_of entries) k) [
        | inl b ↦ elim (member j k x b h m) [
          | inl i ↦ let p = of_key j i in (settled_record (Some p.3) (arc_value p.0.value) (entry_groups p.0) version, p.4)
          | inr r ↦ still_kept j r.0 r.1
        ]
        | inr f ↦ let s = linked.members j k x (sym (before k f) ∙ h) m in still_kept j s.0 s.1
      ];
      dirty_above = λ j k x s h m t d. elim (decide_in (keys_of entries) j) [
        | inl b ↦ absurd (true_false d (clean j s b t))
        | inr f ↦ dirty_after j k x s h m f (sym (before j f) ∙ t) d
      ];
    }

    -- the record of an entry
    entry_stored : (e : Entry) → In e entries → new e.key ≡ Some (settled_record (old e.key) (arc_value e.value) (entry_groups e) version)
    entry_stored e i = go (there.there e i)
      where
        q : (w : Record Key Value) × (placed e.key ≡ Some w) × IsWritten new users e version w
        q = wrote.each e i

        now : (w : Record Key Value) → placed e.key ≡ Some w → new e.key ≡ Some (settled_record (Some w) (arc_value e.value) (entry_groups e) version)
        now w h = let t = q.2 in t.there ∙ ap (λ o. Some (settled_record o (arc_value e.value) (entry_groups e) version)) (sym q.1 ∙ h)

        go : IsThere old placed e version → new e.key ≡ Some (settled_record (old e.key) (arc_value e.value) (entry_groups e) version)
        go (inl t) = now t.0 t.2 ∙ ap (λ o. Some (settled_record o (arc_value e.value) (entry_groups e) version)) (sym t.1)
        go (inr t) = now (settled_record None (arc_value e.value) [] version) t.1 ∙ ap Some (stored_over (arc_value e.value) (entry_groups e) version) ∙ ap (λ o. Some (settled_record o (arc_value e.value) (entry_groups e) version)) (sym t.0)

    pub sets_all : SetsAll old new entries version
    sets_all = record { there = entry_stored; others = before }

-- what a contract of the graph sees of a batch
module _ (old : Records) (version : ℕ) (was : GraphView) (b : recorded version old ≡ was) (entries : List Entry) where
  pub ready_entries : HasReadyEntries (record_at was) entries → HasReadyEntries (records_of old) entries
  ready_entries r = subst (λ (f : Key → Option (Record Key Value)). HasReadyEntries f entries) (seen_was old version was b) r

  pub all_seen : (new : Records) → SetsAll (records_of old) (records_of new) entries version → SetsAll (record_at was) (record_at (recorded version new)) entries was.version
  all_seen new s =
      subst (λ (n : ℕ). SetsAll (record_at was) (record_at (recorded version new)) entries n) (ap (λ (x : GraphView). x.version) b)
      (subst (λ (f : Key → Option (Record Key Value)). SetsAll f (record_at (recorded version new)) entries version) (sym (seen_was old version was b))
      (subst (λ (f : Key → Option (Record Key Value)). SetsAll (records_of old) f entries version) (sym (seen_all new version)) s))

-- each entry's key is a reverse dependency of the members of its record
pub are_users : (old placed : Key → Option (Record Key Value)) (users : Users) (entries : List Entry) (version : ℕ) → IsLinked old users → HasPlacedAll old placed entries version → (e : Entry) (j : Key) → IsMember j (groups_at (placed e.key)) → In e.key (users_at users j)
are_users old placed users entries version linked there = member_users old placed users users entries version linked there (record { from = λ j k i. inl i; keeps = λ j k i. i })

-- each entry's key has a record once the records are put there
pub there_recorded : (old placed : Key → Option (Record Key Value)) (entries : List Entry) (version : ℕ) → HasPlacedAll old placed entries version → AreRecorded placed entries
there_recorded old placed entries version p e i = elim (p.there e i) [ inl w ↦ ap is_some w.2 | inr w ↦ ap is_some w.1 ]

-- so has each member of their groups
pub there_members : (old placed : Key → Option (Record Key Value)) (entries : List Entry) (version : ℕ) → HasPlacedAll old placed entries version → HasReadyEntries old entries → HaveMembers placed entries
there_members old placed entries version p ready e i j m = elim (decide_in (keys_of entries) j) [
  | inl b ↦ let x = entry_of entries b in subst (λ k. IsSome (placed k)) x.2 (there_recorded old placed entries version p x.0 x.1)
  | inr f ↦ elim (ready e i j m) [ inl b ↦ absurd (f b) | inr s ↦ ap is_some (p.others j f ∙ s.1) ]
]
