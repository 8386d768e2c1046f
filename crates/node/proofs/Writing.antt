-- A record that is written keeps the parts of the graph linked.
use Rattle.std.proofs.Common.{◌≡◌, ◌≢◌, inl, inr, ℕ, true, false, Option, Some, None, refl, sym, ◌∙◌, ap, subst}
use Rattle.std.specs.Option.{is_some, IsSome}
use Rattle.std.specs.Map.{keys_of}
use Rattle.engine_semantics.specs.Graph.{Record}
use Rattle.engine_semantics.specs.Value.{In, IsMember}
use Rattle.node_table.specs.Tables.{Writes}
use Rattle.keys.specs.declared.key.Key.{Key}
use Rattle.keys.specs.declared.value.Value.{Value}
use Rattle.node.specs.declared.records.NodeRecord.{NodeRecord}
use Rattle.std.specs.Prelude.{All, ◌<◌, length}
use Rattle.node.specs.Records.{Records, Users, AsksNumbers, kept_at, numbers_of, users_at}
use Rattle.node.proofs.Numbering.{same_length}
use Rattle.node.specs.Edges.{HasUsers}
use Rattle.node.specs.Graphs.{GraphView, recorded, record_at, records_of, IsLinked, HasCleanMembers, Sets}
use Rattle.node.proofs.Lists.{some_is, true_false, decide_key}
use Rattle.node.proofs.Linking.{seen_all, is_kept}
use Rattle.node.proofs.Showing.{writes_sets, writes_lists}

module _ (old new : Key → Option (Record Key Value)) (old_users users : Users) (key : Key) (r : Record Key Value) (u : Sets old new key r) (linked : IsLinked old old_users) (uses : HasUsers old_users users key r.groups) (clean : r.dirty ≡ false)
    (ready : (j : Key) → IsMember j r.groups → (s : Record Key Value) × (new j ≡ Some s) × (s.dirty ≡ false)) where
  there : new key ≡ Some r
  there = u.there

  is_it : (k : Key) (x : Record Key Value) → key ≡ k → new k ≡ Some x → r ≡ x
  is_it k x q h = some_is (sym there ∙ ap new q ∙ h)

  before : (k : Key) (x : Record Key Value) → key ≢ k → new k ≡ Some x → old k ≡ Some x
  before k x n h = sym (u.others k n) ∙ h

  still : (j : Key) (s : Record Key Value) → old j ≡ Some s → (x : Record Key Value) × (new j ≡ Some x)
  still j s h = elim (decide_key key j) [ inl q ↦ (r, ap new (sym q) ∙ there) | inr n ↦ (s, u.others j n ∙ h) ]

  asked : (j k : Key) (x : Record Key Value) → key ≡ k → new k ≡ Some x → IsMember j x.groups → IsMember j r.groups
  asked j k x q h i = subst (λ (y : Record Key Value). IsMember j y.groups) (sym (is_it k x q h)) i

  pub written_linked : IsLinked new users
  written_linked = record {
    used = λ j k i. elim (decide_key key k) [
      | inl q ↦ (r, ap new (sym q) ∙ there, uses.own j (subst (λ x. In x (users_at users j)) (sym q) i))
      | inr n ↦ let p = linked.used j k (uses.others j k n i) in (p.0, u.others k n ∙ p.1, p.2)
    ];
    complete = λ j k x h i. elim (decide_key key k) [
      | inl q ↦ subst (λ y. In y (users_at users j)) q (uses.has j (asked j k x q h i))
      | inr n ↦ uses.kept j k n (linked.complete j k x (before k x n h) i)
    ];
    members = λ j k x h i. elim (decide_key key k) [
      | inl q ↦ let s = ready j (asked j k x q h i) in (s.0, s.1)
      | inr n ↦ let s = linked.members j k x (before k x n h) i in still j s.0 s.1
    ];
    dirty_above = λ j k x s h i t d. elim (decide_key key j) [
      | inl q ↦ absurd (true_false (subst (λ (y : Record Key Value). y.dirty ≡ true) (sym (is_it j s q t)) d) clean)
      | inr m ↦ elim (decide_key key k) [
        | inl q ↦ let y = ready j (asked j k x q h i) in
            let same : y.0 ≡ s = some_is (sym y.1 ∙ t) in absurd (true_false d (ap (λ (z : Record Key Value). z.dirty) (sym same) ∙ y.2))
        | inr n ↦ linked.dirty_above j k x s (before k x n h) i (before j s m t) d
      ]
    ];
  }

-- what a contract of the graph sees of it
pub sets_shown : (old new : Records) (key : Key) (r : Record Key Value) (version later_version : ℕ) (was : GraphView) → recorded version old ≡ was → Sets (records_of old) (records_of new) key r → Sets (record_at was) (record_at (recorded later_version new)) key r
sets_shown old new key r version later_version was b s =
    subst (λ (g : GraphView). Sets (record_at g) (record_at (recorded later_version new)) key r) b
    (subst (λ (f : Key → Option (Record Key Value)). Sets f (record_at (recorded later_version new)) key r) (sym (seen_all old version))
    (subst (λ (f : Key → Option (Record Key Value)). Sets (records_of old) f key r) (sym (seen_all new later_version)) s))

-- a record that is only settled keeps its reverse dependencies
module _ (old new : Records) (users : Users) (key : Key) (version : ℕ) (linked : IsLinked (records_of old) users)
    (u : (e : NodeRecord) → kept_at old key ≡ Some e → Writes old new key (record e { settled_at = version; dirty = false }))
    (was : GraphView) (b : recorded version old ≡ was) (clean : HasCleanMembers (record_at was) key) where
  was_seen : record_at was ≡ records_of old
  was_seen = ap record_at (sym b) ∙ seen_all old version

  clean_seen : HasCleanMembers (records_of old) key
  clean_seen = subst (λ (f : Key → Option (Record Key Value)). HasCleanMembers f key) was_seen clean

  abbrev settled : Record Key Value → Record Key Value
  settled r = record r { settled_at = version; dirty = false }

  sets_settled : (r : Record Key Value) → records_of old key ≡ Some r → Sets (records_of old) (records_of new) key (settled r)
  sets_settled r h = let p = is_kept old key r h in
      subst (λ (y : Record Key Value). Sets (records_of old) (records_of new) key (settled y)) p.2 (writes_sets old new key (record p.0 { settled_at = version; dirty = false }) (u p.0 p.1))

  same_users : (r : Record Key Value) → records_of old key ≡ Some r → HasUsers users users key r.groups
  same_users r h = record {
    own = λ j i. let p = linked.used j key i in subst (λ (y : Record Key Value). IsMember j y.groups) (some_is (sym p.1 ∙ h)) p.2;
    has = λ j i. linked.complete j key r h i;
    others = λ j k n i. i;
    kept = λ j k n i. i;
  }

  ready_now : (r : Record Key Value) → records_of old key ≡ Some r → (j : Key) → IsMember j r.groups → (s : Record Key Value) × (records_of new j ≡ Some s) × (s.dirty ≡ false)
  ready_now r h j i =
      let s = linked.members j key r h i in
      elim (decide_key key j) [
        | inl q ↦ (settled r, ap (records_of new) (sym q) ∙ (sets_settled r h).there, refl)
        | inr n ↦ (s.0, (sets_settled r h).others j n ∙ s.1, clean_seen r s.0 j h i s.1)
      ]

  recorded_there : IsSome (record_at was key) → (r : Record Key Value) × (records_of old key ≡ Some r)
  recorded_there g = go (records_of old key) refl
    where
      go : (o : Option (Record Key Value)) → records_of old key ≡ o → (r : Record Key Value) × (o ≡ Some r)
      go None q = absurd (true_false g (ap is_some ((λ i. was_seen i key) ∙ q)))
      go (Some r) q = (r, refl)

  pub settled_linked : IsSome (record_at was key) → IsLinked (records_of new) users
  settled_linked g = let p = recorded_there g in written_linked (records_of old) (records_of new) users users key (settled p.0) (sets_settled p.0 p.1) linked (same_users p.0 p.1) refl (ready_now p.0 p.1)

  pub settled_keys : IsSome (record_at was key) → keys_of new ≡ keys_of old
  settled_keys g = let p = recorded_there g in let k = is_kept old key p.0 p.1 in (u k.0 k.1).keys

  pub settled_lists : IsSome (record_at was key) → (j : Key) → numbers_of new j ≡ numbers_of old j
  settled_lists g = let p = recorded_there g in let k = is_kept old key p.0 p.1 in writes_lists old new key k.0 (record k.0 { settled_at = version; dirty = false }) k.1 refl (u k.0 k.1)

  pub settled_sets : (r : Record Key Value) → record_at was key ≡ Some r → Sets (record_at was) (record_at (recorded version new)) key (record r { settled_at = was.version; dirty = false })
  settled_sets r h =
      subst (λ (v : ℕ). Sets (record_at was) (record_at (recorded version new)) key (record r { settled_at = v; dirty = false })) (ap (λ (x : GraphView). x.version) b)
      (sets_shown old new key (settled r) version version was b (sets_settled r (sym (λ i. was_seen i key) ∙ h)))

  pub settled_asks : IsSome (record_at was key) → AsksNumbers old → AsksNumbers new
  settled_asks g a k x h = subst (λ l. All (All (λ n. n < l)) x.groups) (sym (same_length old new (settled_keys g))) (elim (decide_key key k) [
    | inl q ↦ let p = recorded_there g in let y = is_kept old key p.0 p.1 in
        let is : record y.0 { settled_at = version; dirty = false } ≡ x = some_is (sym (u y.0 y.1).there ∙ ap (kept_at new) q ∙ h) in
        subst (λ (z : NodeRecord). All (All (λ n. n < length old)) z.groups) is (a key y.0 y.1)
    | inr n ↦ let p = recorded_there g in let y = is_kept old key p.0 p.1 in a k x (sym ((u y.0 y.1).others k n) ∙ h)
  ])
