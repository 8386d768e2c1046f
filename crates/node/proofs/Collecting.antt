-- What an edit reaches is collected by marks that are taken away again, and marked later.
use Rattle.std.proofs.Common.{◌≡◌, ◌⊎◌, inl, inr, ℕ, ◌+◌, ◌<◌, Bool, true, false, List, [], ◌∷◌, ◌++◌, Option, Some, None, refl, sym, ◌∙◌, ap, subst, length, take, slice_index_or}
use Rattle.engine_semantics.specs.Graph.{Record, Reaches, leaf, through, MarksDirty}
use Rattle.engine_semantics.specs.Value.{In, first}
use Rattle.std.specs.Map.{keys_of}
use Rattle.node_table.specs.Tables.{AreDistinct, Writes}
use Rattle.node_table.proofs.Numbers.{same_entries}
use Rattle.keys.specs.declared.key.Key.{Key}
use Rattle.keys.specs.declared.value.Value.{Value}
use Rattle.node.specs.declared.records.NodeRecord.{NodeRecord}
use Rattle.std.specs.Prelude.{All}
use Rattle.node.specs.Records.{Records, Users, AsksNumbers, kept_at, rdep_ids, numbers_of, record_of}
use Rattle.node.proofs.Showing.{seen_same}
use Rattle.node.specs.Marks.{IsDirty, IsReached, at_leaf, by_user, Marked, HasPassed, SetsMarks}
use Rattle.node.specs.Graphs.{GraphView, recorded, record_at, records_of, touched_leaves, IsTouched, IsLinked, AreReached}
use Rattle.node.proofs.Lists.{in_split, in_left, in_right, in_one, not_in, some_is, none_some, same_or_value}
use Rattle.node.proofs.Linking.{is_kept, is_seen, seen_all, reaches, edit_marks, still_linked, touched_marks}
use Rattle.node.proofs.Numbering.{one_more, same_length}

-- no mark is set yet
pub none_set : (dirty : Bool) (records : Records) (keys : List Key) → keys ≡ [] → SetsMarks dirty records records keys
none_set dirty records keys q = record {
  each = λ k i. absurd (not_in i q);
  none = λ k h. h;
  rest = λ k. inr refl;
}

-- one more mark is set
module _ (dirty : Bool) (old middle new : Records) (keys : List Key) (key : Key) (s : SetsMarks dirty old middle keys)
    (u : (e : NodeRecord) → kept_at middle key ≡ Some e → Writes middle new key (record e { dirty = dirty }))
    (n : kept_at middle key ≡ None → new ≡ middle) where
  -- what is kept of a key so far is what was kept at first, but for its mark
  same_but_mark : (k : Key) (e x : NodeRecord) → kept_at old k ≡ Some e → kept_at middle k ≡ Some x → record x { dirty = dirty } ≡ record e { dirty = dirty }
  same_but_mark k e x h g = elim (s.rest k) [
    | inl a ↦ ap (λ (y : NodeRecord). record y { dirty = dirty }) (some_is (sym g ∙ s.each k a e h))
    | inr p ↦ ap (λ (y : NodeRecord). record y { dirty = dirty }) (some_is (sym g ∙ p ∙ h))
  ]

  some_set : (x : NodeRecord) → kept_at middle key ≡ Some x → SetsMarks dirty old new (keys ++ key ∷ [])
  some_set x g = record {
    each = λ k i e h. elim (same_or_value middle new key _ (u x g) k) [
      | inl q ↦ ap (kept_at new) (sym q) ∙ (u x g).there ∙ ap (λ (y : NodeRecord). Some y) (same_but_mark k e x h (ap (kept_at middle) (sym q) ∙ g))
      | inr p ↦ elim (in_split i keys (key ∷ []) refl) [
        | inl a ↦ p ∙ s.each k a e h
        | inr b ↦ ap (kept_at new) (in_one b) ∙ (u x g).there ∙ ap (λ (y : NodeRecord). Some y) (same_but_mark k e x h (ap (kept_at middle) (in_one b) ∙ g))
      ]
    ];
    none = λ k h. elim (same_or_value middle new key _ (u x g) k) [
      | inl q ↦ absurd (none_some (sym (s.none k h) ∙ ap (kept_at middle) (sym q) ∙ g))
      | inr p ↦ p ∙ s.none k h
    ];
    rest = λ k. elim (same_or_value middle new key _ (u x g) k) [
      | inl q ↦ inl (in_right keys (subst (λ y. In y (key ∷ [])) q first))
      | inr p ↦ elim (s.rest k) [ inl a ↦ inl (in_left (key ∷ []) a) | inr r ↦ inr (p ∙ r) ]
    ];
  }

  none_kept : kept_at middle key ≡ None → SetsMarks dirty old new (keys ++ key ∷ [])
  none_kept g = record {
    each = λ k i e h. elim (in_split i keys (key ∷ []) refl) [
      | inl a ↦ same k ∙ s.each k a e h
      | inr b ↦ absurd (missing e (ap (kept_at old) (sym (in_one b)) ∙ h) (s.rest key))
    ];
    none = λ k h. same k ∙ s.none k h;
    rest = λ k. elim (s.rest k) [ inl a ↦ inl (in_left (key ∷ []) a) | inr r ↦ inr (same k ∙ r) ];
  }
    where
      same : (k : Key) → kept_at new k ≡ kept_at middle k
      same k = ap (λ (es : Records). kept_at es k) (n g)

      missing : (e : NodeRecord) → kept_at old key ≡ Some e → In key keys ⊎ (kept_at middle key ≡ kept_at old key) → ⊥
      missing e h (inl a) = none_some (sym g ∙ s.each key a e h)
      missing e h (inr p) = none_some (sym g ∙ p ∙ h)

  pub one_set : SetsMarks dirty old new (keys ++ key ∷ [])
  one_set = go (kept_at middle key) refl
    where
      go : (o : Option NodeRecord) → kept_at middle key ≡ o → SetsMarks dirty old new (keys ++ key ∷ [])
      go None q = none_kept q
      go (Some x) q = some_set x q

-- the mark of the key at that place
pub place_set : (dirty : Bool) (old middle new : Records) (keys : List Key) (at : ℕ) (d key : Key) → key ≡ slice_index_or keys at d → at < length keys
    → ((e : NodeRecord) → kept_at middle key ≡ Some e → Writes middle new key (record e { dirty = dirty }))
    → (kept_at middle key ≡ None → new ≡ middle)
    → SetsMarks dirty old middle (take at keys) → SetsMarks dirty old new (take (at + 1) keys)
place_set dirty old middle new keys at d key e l u n s =
    subst (SetsMarks dirty old new) (ap (λ k. take at keys ++ k ∷ []) e ∙ sym (one_more keys at d l)) (one_set dirty old middle new (take at keys) key s u n)

-- marks that were spread and taken away again
pub unmarked : (users : Users) (leaves : List Key) (old middle new : Records) (keys given : List Key) → given ≡ keys → Marked users leaves old middle keys → SetsMarks false middle new given → (k : Key) → kept_at new k ≡ kept_at old k
unmarked users leaves old middle new keys given e m t k = elim (m.rest k) [
  | inl a ↦ listed a
  | inr q ↦ elim (s.rest k) [ inl a ↦ listed a | inr r ↦ r ∙ q ]
]
  where
    s : SetsMarks false middle new keys
    s = subst (SetsMarks false middle new) e t

    listed : In k keys → kept_at new k ≡ kept_at old k
    listed a = let p = m.each k a in s.each k a (record p.0 { dirty = true }) p.3 ∙ ap (λ b. Some (record p.0 { dirty = b })) (sym p.2) ∙ sym p.1

-- so the records are the same
pub unmarked_same : (users : Users) (leaves : List Key) (old middle new : Records) (keys given : List Key) → AreDistinct old → given ≡ keys → keys_of middle ≡ keys_of old → keys_of new ≡ keys_of middle → Marked users leaves old middle keys → SetsMarks false middle new given → new ≡ old
unmarked_same users leaves old middle new keys given d e k l m t = same_entries old new d (l ∙ k) (unmarked users leaves old middle new keys given e m t)

-- what was marked from the leaves is what an edit that touches them reaches
module _ (users : Users) (leaves : List Key) (old new : Records) (same : keys_of new ≡ keys_of old) (marked : List Key) (linked : IsLinked (records_of old) users) (m : Marked users leaves old new marked) (passed : HasPassed users new marked) (begun : (k : Key) → In k leaves → IsDirty new k) where
  abbrev IsLeaf : Key → Type 0
  IsLeaf k = In k leaves

  pub are_reached : AreReached (records_of old) IsLeaf marked
  are_reached = record {
    each = λ k i. let p = m.each k i in (record_of (keys_of old) p.0, is_seen old k p.0 p.1, p.2, reaches users leaves old new same marked linked m passed begun p.4);
    all = λ k r h c. let l = (edit_marks users leaves old new same marked linked m passed begun) in let x = l.kept k r h in
        let d : x.0 ≡ true = l.marks k r (record r { dirty = x.0 }) h x.1 (inr c) in elim (m.rest k) [
          | inl a ↦ inr a
          | inr p ↦ inl (same_mark k r x.0 h x.1 p ∙ d)
        ];
  }
    where
      same_mark : (k : Key) (r : Record Key Value) (b : Bool) → records_of old k ≡ Some r → records_of new k ≡ Some (record r { dirty = b }) → kept_at new k ≡ kept_at old k → r.dirty ≡ b
      same_mark k r b h g p = let q : r ≡ record r { dirty = b } = some_is (sym h ∙ sym (seen_same old new k same p) ∙ g) in ap (λ (y : Record Key Value). y.dirty) q

-- what an edit reaches is marked dirty
module _ (users : Users) (leaves : List Key) (old new : Records) (keys : List Key) (linked : IsLinked (records_of old) users) (reached : AreReached (records_of old) (λ k. In k leaves) keys) (s : SetsMarks true old new keys) where
  reached_users : {k : Key} → Reaches (records_of old) (λ x. In x leaves) k → IsReached users leaves k
  reached_users (leaf i) = at_leaf i
  reached_users (through {k = k} {r = r} {j = j} h i c) = by_user (reached_users c) (linked.complete j k r h i)

  -- what reaches a leaf is dirty now
  now_dirty : (k : Key) → Reaches (records_of old) (λ x. In x leaves) k → IsDirty new k
  now_dirty k c e h = go (kept_at old k) refl
    where
      listed : (x : NodeRecord) → kept_at old k ≡ Some x → In k keys → e.dirty ≡ true
      listed x g a = let q : e ≡ record x { dirty = true } = some_is (sym h ∙ s.each k a x g) in ap (λ (y : NodeRecord). y.dirty) q

      go : (o : Option NodeRecord) → kept_at old k ≡ o → e.dirty ≡ true
      go None g = absurd (none_some (sym (s.none k g) ∙ h))
      go (Some x) g = elim (reached.all k (record_of (keys_of old) x) (is_seen old k x g) c) [
        | inr a ↦ listed x g a
        | inl d ↦ elim (s.rest k) [
          | inl a ↦ listed x g a
          | inr p ↦ let q : e ≡ x = some_is (sym h ∙ p ∙ g) in ap (λ (y : NodeRecord). y.dirty) q ∙ d
        ]
      ]

  pub set_marked : Marked users leaves old new keys
  set_marked = record {
    each = λ k i. let p = reached.each k i in let q = is_kept old k p.0 p.1 in
        (q.0, q.1, ap (λ (y : Record Key Value). y.dirty) q.2 ∙ p.2, s.each k i q.0 q.1, reached_users p.3);
    rest = s.rest;
  }

  pub set_passed : HasPassed users new keys
  set_passed j i k u = let p = reached.each j i in let q = linked.used j k u in now_dirty k (through q.1 q.2 p.3)

  pub set_begun : (k : Key) → In k leaves → IsDirty new k
  set_begun k i = now_dirty k (leaf i)

-- the same of the graph that a contract sees
pub seen_reached : (records : Records) (version : ℕ) (before : GraphView) → recorded version records ≡ before → (touched : Key → Type 0) (keys : List Key) → AreReached (record_at before) touched keys → AreReached (records_of records) touched keys
seen_reached records version before b touched keys r =
    subst (λ (f : Key → Option (Record Key Value)). AreReached f touched keys) (seen_all records version)
    (subst (λ (g : GraphView). AreReached (record_at g) touched keys) (sym b) r)

pub shown_reached : (records : Records) (version : ℕ) (before : GraphView) → recorded version records ≡ before → (leaves path : List Key) (keys : List Key) → leaves ≡ path → AreReached (records_of records) (λ k. In k leaves) keys → AreReached (record_at before) (λ k. In k path) keys
shown_reached records version before b leaves path keys e r =
    subst (λ (ls : List Key). AreReached (record_at before) (λ k. In k ls) keys) e
    (subst (λ (g : GraphView). AreReached (record_at g) (λ k. In k leaves) keys) b
    (subst (λ (f : Key → Option (Record Key Value)). AreReached f (λ k. In k leaves) keys) (sym (seen_all records version)) r))

-- a graph whose records were marked dirty in this way
module _ (users : Users) (old new : Records) (same : keys_of new ≡ keys_of old) (version : ℕ) (before : GraphView) (b : recorded version old ≡ before) (linked : IsLinked (records_of old) users) (keys : List Key) (s : SetsMarks true old new keys) where
  pub marking_linked : (paths : List (List ℕ)) → AreReached (record_at before) (IsTouched paths) keys → IsLinked (records_of new) users
  marking_linked paths r = let a = seen_reached old version before b (IsTouched paths) keys r in
      still_linked users (touched_leaves paths) old new same keys linked (set_marked users (touched_leaves paths) old new keys linked a s) (set_passed users (touched_leaves paths) old new keys linked a s) (set_begun users (touched_leaves paths) old new keys linked a s)

  pub marking_marks : (paths : List (List ℕ)) → AreReached (record_at before) (IsTouched paths) keys → (later : ℕ) → MarksDirty (record_at before) (record_at (recorded later new)) (IsTouched paths)
  marking_marks paths r later = let a = seen_reached old version before b (IsTouched paths) keys r in
      touched_marks users (touched_leaves paths) old new same keys linked (set_marked users (touched_leaves paths) old new keys linked a s) (set_passed users (touched_leaves paths) old new keys linked a s) (set_begun users (touched_leaves paths) old new keys linked a s) paths refl before version later b

-- marks leave the reverse dependencies
pub marks_lists : (dirty : Bool) (old new : Records) (keys : List Key) → SetsMarks dirty old new keys → (j : Key) → numbers_of new j ≡ numbers_of old j
marks_lists dirty old new keys s j = elim (s.rest j) [
  | inl i ↦ go i (kept_at old j) refl
  | inr q ↦ ap rdep_ids q
]
  where
    go : In j keys → (o : Option NodeRecord) → kept_at old j ≡ o → numbers_of new j ≡ numbers_of old j
    go i None h = ap rdep_ids (s.none j h) ∙ sym (ap rdep_ids h)
    go i (Some e) h = ap rdep_ids (s.each j i e h) ∙ sym (ap rdep_ids h)

-- and the groups
pub marks_asks : (dirty : Bool) (old new : Records) (keys : List Key) → keys_of new ≡ keys_of old → SetsMarks dirty old new keys → AsksNumbers old → AsksNumbers new
marks_asks dirty old new keys e s a k x h = subst (λ l. All (All (λ n. n < l)) x.groups) (sym (same_length old new e)) (elim (s.rest k) [
  | inl i ↦ go i (kept_at old k) refl
  | inr q ↦ a k x (sym q ∙ h)
])
  where
    go : In k keys → (o : Option NodeRecord) → kept_at old k ≡ o → All (All (λ n. n < length old)) x.groups
    go i None q = absurd (none_some (sym (s.none k q) ∙ h))
    go i (Some y) q = let is : record y { dirty = dirty } ≡ x = some_is (sym (s.each k i y q) ∙ h) in subst (λ (z : NodeRecord). All (All (λ n. n < length old)) z.groups) is (a k y q)
