-- The marks that were spread are those that an edit makes, and the parts of the graph stay linked.
use Rattle.std.proofs.Common.{◌≡◌, ◌⊎◌, inl, inr, ℕ, Bool, true, false, cond, List, [], ◌∷◌, map, Bor, Option, Some, None, refl, sym, ◌∙◌, ap, subst}
use Rattle.std.specs.Option.{option_map, option_copied}
use Rattle.std.specs.Map.{keys_of, lookup}
use Rattle.std.specs.BTreeMap.{is_at}
use Rattle.engine_semantics.specs.Graph.{Record, Reaches, leaf, through, MarksDirty}
use Rattle.engine_semantics.specs.Value.{In, IsMember}
use Rattle.engine_semantics.proofs.Marking.{reached_marked}
use Rattle.node_table.specs.Tables.{AreDistinct}
use Rattle.std.specs.Ordering.{is_eq}
use Rattle.std.proofs.lemmas.Cmp.{tied_itself}
use Rattle.std.proofs.lemmas.Map.Views.{tells_apart}
use Rattle.keys.specs.Keys.{key_cmp, key_eq}
use Rattle.node_table.proofs.Numbers.{other_key}
use Rattle.keys.specs.declared.key.Key.{Key}
use Rattle.keys.specs.declared.value.Value.{Value}
use Rattle.node.specs.declared.records.NodeRecord.{NodeRecord}
use Rattle.node.specs.Records.{Records, Users, by_keys, kept_at, users_of, numbers_of, record_of, rows, entries_of}
use Rattle.node.proofs.Showing.{seen_same}
use Rattle.node.specs.Marks.{IsDirty, IsReached, at_leaf, by_user, Marked, HasPassed}
use Rattle.node.specs.Graphs.{GraphView, recorded, record_at, records_of, touched_leaves, IsTouched, IsLinked, IsLinkedBy}
use Rattle.keys.proofs.KeyLaws.{keys_total, exact_keys, exact_key_eq}
use Rattle.node.proofs.Lists.{some_is, none_some, true_false, not_in}

-- the order of keys distinguishes the keys that the equality distinguishes
same_test : (k x : Key) → is_at (key_cmp k) x ≡ key_eq k x
same_test k x = go (is_at (key_cmp k) x) refl
  where
    itself : is_at (key_cmp k) k ≡ true
    itself = ap is_eq (tied_itself keys_total k)

    go : (b : Bool) → is_at (key_cmp k) x ≡ b → is_at (key_cmp k) x ≡ key_eq k x
    go true t = t ∙ sym ((exact_key_eq k x).1 (tells_apart exact_keys k x t))
    go false t = t ∙ sym (other_key k x (λ q. true_false (subst (λ y. is_at (key_cmp k) y ≡ true) q itself) t))

pub seen_is : (records : Records) (version : ℕ) (k : Key) → record_at (recorded version records) k ≡ records_of records k
seen_is records version k = go records
  where
    pushed : (b : Bool) (x : NodeRecord) (o : Option NodeRecord) → cond b (Some (record_of (keys_of records) x)) (option_map (record_of (keys_of records)) o) ≡ option_map (record_of (keys_of records)) (cond b (Some x) o)
    pushed true x o = refl
    pushed false x o = refl

    go : (es : List (Key × NodeRecord)) → lookup (is_at (key_cmp k)) (map (λ (e : Key × Record ℕ Value). (e.0, by_keys (keys_of records) e.1)) (rows es)) ≡ option_map (record_of (keys_of records)) (kept_at es k)
    go [] = refl
    go (e ∷ es) = (λ i. cond (same_test k e.0 i) (Some (record_of (keys_of records) e.1)) (go es i)) ∙ pushed (key_eq k e.0) e.1 (kept_at es k)

pub seen_all : (records : Records) (version : ℕ) → record_at (recorded version records) ≡ records_of records
seen_all records version = λ i k. seen_is records version k i

-- a record that is seen is kept
pub is_kept : (records : Records) (k : Key) (r : Record Key Value) → records_of records k ≡ Some r → (e : NodeRecord) × (kept_at records k ≡ Some e) × (record_of (keys_of records) e ≡ r)
is_kept records k r h = go (kept_at records k) refl
  where
    go : (o : Option NodeRecord) → kept_at records k ≡ o → (e : NodeRecord) × (kept_at records k ≡ Some e) × (record_of (keys_of records) e ≡ r)
    go None q = absurd (none_some (ap (option_map (record_of (keys_of records))) (sym q) ∙ h))
    go (Some e) q = (e, q, some_is (ap (option_map (record_of (keys_of records))) (sym q) ∙ h))

pub is_seen : (records : Records) (k : Key) (e : NodeRecord) → kept_at records k ≡ Some e → records_of records k ≡ Some (record_of (keys_of records) e)
is_seen records k e h = ap (option_map (record_of (keys_of records))) h

module _ (users : Users) (leaves : List Key) (old new : Records) (same : keys_of new ≡ keys_of old) (marked : List Key) (linked : IsLinked (records_of old) users) (m : Marked users leaves old new marked) (passed : HasPassed users new marked) (begun : (k : Key) → In k leaves → IsDirty new k) where
  -- a record before and after
  later : (k : Key) (e : NodeRecord) → kept_at old k ≡ Some e → (d : Bool) × (kept_at new k ≡ Some (record e { dirty = d })) × (e.dirty ≡ true → d ≡ true) × (d ≡ true → (e.dirty ≡ true) ⊎ IsReached users leaves k)
  later k e h = elim (m.rest k) [
    | inl a ↦ let p = m.each k a in let q : p.0 ≡ e = some_is (sym p.1 ∙ h) in
        (true, p.3 ∙ ap (λ (y : NodeRecord). Some (record y { dirty = true })) q, λ t. refl, λ t. inr p.4)
    | inr p ↦ (e.dirty, p ∙ h, λ t. t, λ t. inl t)
  ]

  earlier : (k : Key) (e : NodeRecord) → kept_at new k ≡ Some e → (x : NodeRecord) × (kept_at old k ≡ Some x) × (d : Bool) × (e ≡ record x { dirty = d })
  earlier k e h = elim (m.rest k) [
    | inl a ↦ let p = m.each k a in (p.0, p.1, true, some_is (sym h ∙ p.3))
    | inr p ↦ (e, sym p ∙ h, e.dirty, refl)
  ]

  -- the same as a contract sees them
  seen_new : (k : Key) (e : NodeRecord) → kept_at new k ≡ Some e → records_of new k ≡ Some (record_of (keys_of old) e)
  seen_new k e h = λ i. option_map (record_of (same i)) (h i)

  kept_new : (k : Key) (r : Record Key Value) → records_of new k ≡ Some r → (e : NodeRecord) × (kept_at new k ≡ Some e) × (record_of (keys_of old) e ≡ r)
  kept_new k r h = let p = is_kept new k r h in (p.0, p.1, (λ i. record_of (sym same i) p.0) ∙ p.2)

  seen_later : (k : Key) (r : Record Key Value) → records_of old k ≡ Some r → (d : Bool) × (records_of new k ≡ Some (record r { dirty = d }))
  seen_later k r h = let p = is_kept old k r h in let l = later k p.0 p.1 in
      (l.0, seen_new k (record p.0 { dirty = l.0 }) l.1 ∙ ap (λ (y : Record Key Value). Some (record y { dirty = l.0 })) p.2)

  seen_earlier : (k : Key) (r : Record Key Value) → records_of new k ≡ Some r → (x : Record Key Value) × (records_of old k ≡ Some x) × (x.groups ≡ r.groups)
  seen_earlier k r h = let p = kept_new k r h in let l = earlier k p.0 p.1 in
      (record_of (keys_of old) l.0, is_seen old k l.0 l.1, ap (λ (y : NodeRecord). (record_of (keys_of old) y).groups) (sym l.3) ∙ ap (λ (y : Record Key Value). y.groups) p.2)

  dirty_stays : (k : Key) → IsDirty old k → IsDirty new k
  dirty_stays k d e h = let p = earlier k e h in let l = later k p.0 p.1 in
      let q : e ≡ record p.0 { dirty = l.0 } = some_is (sym h ∙ l.1) in ap (λ (y : NodeRecord). y.dirty) q ∙ l.2 (d p.0 p.1)

  dirty_seen : (k : Key) (x : Record Key Value) → IsDirty new k → records_of new k ≡ Some x → x.dirty ≡ true
  dirty_seen k x d h = let p = kept_new k x h in ap (λ (y : Record Key Value). y.dirty) (sym p.2) ∙ d p.0 p.1

  dirty_kept : (k : Key) (r : Record Key Value) → records_of old k ≡ Some r → r.dirty ≡ true → IsDirty old k
  dirty_kept k r h d e g = let q : record_of (keys_of old) e ≡ r = some_is (sym (is_seen old k e g) ∙ h) in ap (λ (y : Record Key Value). y.dirty) q ∙ d

  -- what has a dirty member is dirty
  dirty_user : (j k : Key) (r s : Record Key Value) → records_of old k ≡ Some r → IsMember j r.groups → records_of new j ≡ Some s → s.dirty ≡ true → IsDirty new k
  dirty_user j k r s h i t d = elim (m.rest j) [
    | inl a ↦ passed j a k (linked.complete j k r h i)
    | inr p ↦ dirty_stays k (dirty_kept k r h (linked.dirty_above j k r s h i (sym (seen_same old new j same p) ∙ t) d))
  ]

  pub still_linked : IsLinked (records_of new) users
  still_linked = record {
    used = λ j k i. let p = linked.used j k i in let l = seen_later k p.0 p.1 in (record p.0 { dirty = l.0 }, l.1, p.2);
    complete = λ j k r h i. let p = seen_earlier k r h in linked.complete j k p.0 p.1 (subst (IsMember j) (sym p.2) i);
    members = λ j k r h i. let p = seen_earlier k r h in let s = linked.members j k p.0 p.1 (subst (IsMember j) (sym p.2) i) in let l = seen_later j s.0 s.1 in (record s.0 { dirty = l.0 }, l.1);
    dirty_above = λ j k r s h i t d. let p = seen_earlier k r h in dirty_seen k r (dirty_user j k p.0 s p.1 (subst (IsMember j) (sym p.2) i) t d) h;
  }

  abbrev IsLeaf : Key → Type 0
  IsLeaf k = In k leaves

  pub reaches : {k : Key} → IsReached users leaves k → Reaches (records_of old) IsLeaf k
  reaches (at_leaf i) = leaf i
  reaches (by_user {j = j} {k = k} r i) = let p = linked.used j k i in through p.1 p.2 (reaches r)

  pub edit_marks : MarksDirty (records_of old) (records_of new) IsLeaf
  edit_marks = record {
    none_new = λ k h. go k h (m.rest k);
    kept = seen_later;
    marks = λ k r x h g w. elim w [
      | inl d ↦ dirty_seen k x (dirty_stays k (dirty_kept k r h d)) g
      | inr c ↦ reached_marked (records_of old) (records_of new) IsLeaf seen_later linked_members (λ i y a q. dirty_seen i y (begun i a) q) seen_users c g
    ];
    only = λ k r x h g d. let p = is_kept old k r h in let l = later k p.0 p.1 in
        let q : x ≡ record_of (keys_of old) (record p.0 { dirty = l.0 }) = some_is (sym g ∙ seen_new k (record p.0 { dirty = l.0 }) l.1) in
        elim (l.3 (sym (ap (λ (y : Record Key Value). y.dirty) q) ∙ d)) [
          | inl c ↦ inl (ap (λ (y : Record Key Value). y.dirty) (sym p.2) ∙ c)
          | inr c ↦ inr (reaches c)
        ];
  }
    where
      go : (k : Key) → records_of old k ≡ None → In k marked ⊎ (kept_at new k ≡ kept_at old k) → records_of new k ≡ None
      go k h (inl a) = let p = m.each k a in absurd (none_some (sym h ∙ is_seen old k p.0 p.1))
      go k h (inr q) = seen_same old new k same q ∙ h

      linked_members : (k : Key) (r : Record Key Value) (j : Key) → records_of old k ≡ Some r → IsMember j r.groups → (s : Record Key Value) × (records_of old j ≡ Some s)
      linked_members k r j h i = linked.members j k r h i

      seen_users : (k : Key) (r : Record Key Value) (j : Key) → records_of old k ≡ Some r → IsMember j r.groups → (s x : Record Key Value) → records_of new j ≡ Some s → s.dirty ≡ true → records_of new k ≡ Some x → x.dirty ≡ true
      seen_users k r j h i s x g d q = dirty_seen k x (dirty_user j k r s h i g d) q

-- what a look-up finds is what a contract sees
pub shown_keys : (records : Records) → keys_of (entries_of records) ≡ keys_of records
shown_keys records = go records
  where
    go : (es : Records) → keys_of (map (λ (e : Key × Record ℕ Value). (e.0, by_keys (keys_of records) e.1)) (rows es)) ≡ keys_of es
    go [] = refl
    go (e ∷ es) = ap (λ l. e.0 ∷ l) (go es)

pub kept_seen : (records : Records) (version : ℕ) (k : Key) (found : Option (Bor NodeRecord)) → option_copied found ≡ kept_at records k → option_map (λ e. record_of (keys_of (recorded version records).records) e.now) found ≡ record_at (recorded version records) k
kept_seen records version k found h = (λ i. option_map (λ e. record_of (shown_keys records i) e.now) found) ∙ go found ∙ ap (option_map (record_of (keys_of records))) h ∙ sym (seen_is records version k)
  where
    go : (o : Option (Bor NodeRecord)) → option_map (λ e. record_of (keys_of records) e.now) o ≡ option_map (record_of (keys_of records)) (option_copied o)
    go None = refl
    go (Some e) = refl

-- marks from the leaves that edits touch
module _ (users : Users) (leaves : List Key) (old new : Records) (same : keys_of new ≡ keys_of old) (marked : List Key) (linked : IsLinked (records_of old) users) (m : Marked users leaves old new marked) (passed : HasPassed users new marked) (begins : (k : Key) → In k leaves → IsDirty new k) where
  pub touched_marks : (paths : List (List ℕ)) → leaves ≡ touched_leaves paths → (before : GraphView) (version later_version : ℕ) → recorded version old ≡ before → MarksDirty (record_at before) (record_at (recorded later_version new)) (IsTouched paths)
  touched_marks paths e before version later_version b =
      subst (λ (ls : List Key). MarksDirty (record_at before) (record_at (recorded later_version new)) (λ k. In k ls)) e
      (subst (λ (r : GraphView). MarksDirty (record_at r) (record_at (recorded later_version new)) (λ k. In k leaves)) b
      (subst (λ (f : Key → Option (Record Key Value)). MarksDirty f (record_at (recorded later_version new)) (λ k. In k leaves)) (sym (seen_all old version))
      (subst (λ (f : Key → Option (Record Key Value)). MarksDirty (records_of old) f (λ k. In k leaves)) (sym (seen_all new later_version)) (edit_marks users leaves old new same marked linked m passed begins))))

-- without records the parts are linked
pub nothing_linked : (records : Records) → records ≡ [] → AreDistinct records → IsLinkedBy records
nothing_linked records e d = record {
  linked = record {
    used = λ j k i. absurd (not_in i (ap (λ (es : Records). users_of es j) e));
    complete = λ j k x h m. absurd (none_some (sym (none k) ∙ h));
    members = λ j k x h m. absurd (none_some (sym (none k) ∙ h));
    dirty_above = λ j k x s h m t c. absurd (none_some (sym (none k) ∙ h));
  };
  numbers = λ j n i. absurd (not_in i (ap (λ (es : Records). numbers_of es j) e));
  asks = λ k x h. absurd (none_some (sym (ap (λ (es : Records). kept_at es k) e) ∙ h));
  ordered = d;
}
  where
    none : (k : Key) → records_of records k ≡ None
    none k = ap (λ (es : Records). records_of es k) e
