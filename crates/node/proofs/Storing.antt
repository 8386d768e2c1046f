-- A record is stored, for a key that has one and for a key that has none.
use Rattle.std.proofs.Common.{◌≡◌, ◌≢◌, inl, inr, ℕ, Bool, true, false, cond, List, [], ◌∷◌, ◌++◌, Option, Some, None, refl, sym, ◌∙◌, ap, subst, arith}
use Rattle.std.specs.Option.{option_map, is_some, IsSome}
use Rattle.engine_semantics.specs.Graph.{Record}
use Rattle.engine_semantics.specs.Value.{IsMember}
use Rattle.keys.specs.Values.{value_eq}
use Rattle.keys.specs.declared.key.Key.{Key}
use Rattle.keys.specs.declared.value.Value.{Value}
use Rattle.node.specs.declared.records.NodeRecord.{NodeRecord}
use Rattle.std.specs.Prelude.{All, ◌<◌, length}
use Rattle.std.specs.Arc.{arc_value}
use Rattle.std.specs.Map.{keys_of}
use Rattle.std.proofs.lemmas.List.{map-append, length-append}
use Rattle.std.proofs.lemmas.List.Elements.{All-nil}
use Rattle.indexmap.proofs.MapLemmas.{some_index}
use Rattle.keys.specs.Keys.{key_eq}
use Rattle.node_table.specs.Tables.{Grows, AreDistinct, key_at, number_of}
use Rattle.node_table.proofs.Flats.{groups_stay}
use Rattle.node.specs.Records.{Records, Users, AsksNumbers, by_keys, kept_at, record_of, row_of}
use Rattle.node.proofs.Numbering.{all_below}
use Rattle.node.specs.Edges.{HasUsers}
use Rattle.node.specs.Graphs.{GraphView, recorded, record_at, records_of, IsLinked, Sets}
use Rattle.node.specs.Writes.{settled_record, HasReadyMembers}
use Rattle.node.proofs.Lists.{none_some, some_is, true_false, not_in, decide_key}
use Rattle.node.proofs.Linking.{seen_all}
use Rattle.node.proofs.Writing.{written_linked}
use Rattle.node_table.proofs.Numbers.{number_iff, value_pushed, others_pushed}

-- the members have clean records after the write
ready_now : (old new : Key → Option (Record Key Value)) (key : Key) (r : Record Key Value) → new key ≡ Some r → r.dirty ≡ false → ((j : Key) → key ≢ j → new j ≡ old j) → (groups : List (List Key)) → HasReadyMembers old key groups
    → (j : Key) → IsMember j groups → (s : Record Key Value) × (new j ≡ Some s) × (s.dirty ≡ false)
ready_now old new key r h d others groups ready j m = elim (decide_key key j) [
  | inl q ↦ own q
  | inr n ↦ elim (ready j m) [
    | inl q ↦ own q
    | inr s ↦ (s.0, others j n ∙ s.1, s.2)
  ]
]
  where
    own : key ≡ j → (s : Record Key Value) × (new j ≡ Some s) × (s.dirty ≡ false)
    own q = (r, ap new (sym q) ∙ h, d)

-- the members of the groups have records
pub ready_recorded : (records : Key → Option (Record Key Value)) (key : Key) (groups : List (List Key)) → IsSome (records key) → HasReadyMembers records key groups → (j : Key) → IsMember j groups → IsSome (records j)
ready_recorded records key groups own ready j m = elim (ready j m) [ inl q ↦ subst (λ k. IsSome (records k)) q own | inr s ↦ ap is_some s.1 ]

-- also where a record was put at the key first
pub placed_members : (old placed : Key → Option (Record Key Value)) (key : Key) (groups : List (List Key)) → IsSome (placed key) → ((j : Key) → key ≢ j → placed j ≡ old j) → HasReadyMembers old key groups → (j : Key) → IsMember j groups → IsSome (placed j)
placed_members old placed key groups own others ready j m = elim (decide_key key j) [
  | inl q ↦ subst (λ k. IsSome (placed k)) q own
  | inr n ↦ elim (ready j m) [ inl q ↦ absurd (n q) | inr s ↦ ap is_some (others j n ∙ s.1) ]
]

-- a record that was put there without groups is stored again
pub stored_over : (value : Value) (groups : List (List Key)) (version : ℕ) → settled_record (Some (settled_record None value [] version)) value groups version ≡ settled_record None value groups version
stored_over value groups version = ap (λ (n : ℕ). record { value = value; groups = groups; settled_at = version; changed_at = n; dirty = false }) (either (value_eq value value))
  where
    either : (b : Bool) → cond b version version ≡ version
    either true = refl
    either false = refl

module _ (old new : Key → Option (Record Key Value)) (key : Key) (value : Value) (groups : List (List Key)) (version : ℕ) (ready : HasReadyMembers old key groups) where
  -- the key had a record
  pub stored_again : (old_users users : Users) → HasUsers old_users users key groups → IsLinked old old_users → Sets old new key (settled_record (old key) value groups version) → IsLinked new users
  stored_again old_users users uses linked s =
      written_linked old new old_users users key (settled_record (old key) value groups version) s linked uses refl (ready_now old new key (settled_record (old key) value groups version) s.there refl s.others groups ready)

  -- the key had none, and one without groups was put there first
  module _ (placed : Key → Option (Record Key Value)) (there : placed key ≡ Some (settled_record None value [] version)) (others : (j : Key) → key ≢ j → placed j ≡ old j) (none : old key ≡ None)
      (s : Sets placed new key (settled_record (placed key) value groups version)) where
    pub stored_first : Sets old new key (settled_record (old key) value groups version)
    stored_first = record {
      there = s.there ∙ ap Some (ap (λ o. settled_record o value groups version) there ∙ stored_over value groups version ∙ ap (λ o. settled_record o value groups version) (sym none));
      others = λ j n. s.others j n ∙ others j n;
    }

    pub first_linked : (old_users users : Users) → HasUsers old_users users key groups → IsLinked placed old_users → IsLinked new users
    first_linked old_users users uses linked =
        written_linked placed new old_users users key (settled_record (placed key) value groups version) s linked uses refl
        (ready_now old new key (settled_record (placed key) value groups version) s.there refl (λ j n. s.others j n ∙ others j n) groups ready)

-- a record without groups keeps the parts linked
pub placed_linked : (old placed : Key → Option (Record Key Value)) (users : Users) (key : Key) (p : Record Key Value) → placed key ≡ Some p → ((k : Key) → key ≢ k → placed k ≡ old k) → p.groups ≡ [] → old key ≡ None → IsLinked old users → IsLinked placed users
placed_linked old placed users key p there other g none linked = record {
  used = λ j k i. let x = linked.used j k i in (x.0, still k x.0 x.1, x.2);
  complete = λ j k x h m. elim (decide_key key k) [
    | inl q ↦ absurd (no_member j k x q h m)
    | inr n ↦ linked.complete j k x (sym (other k n) ∙ h) m
  ];
  members = λ j k x h m. elim (decide_key key k) [
    | inl q ↦ absurd (no_member j k x q h m)
    | inr n ↦ let s = linked.members j k x (sym (other k n) ∙ h) m in (s.0, still j s.0 s.1)
  ];
  dirty_above = λ j k x s h m t c. elim (decide_key key k) [
    | inl q ↦ absurd (no_member j k x q h m)
    | inr n ↦ elim (decide_key key j) [
      | inl q ↦ let r = linked.members j k x (sym (other k n) ∙ h) m in absurd (none_some (sym none ∙ ap old q ∙ r.1))
      | inr f ↦ linked.dirty_above j k x s (sym (other k n) ∙ h) m (sym (other j f) ∙ t) c
    ]
  ];
}
  where
    still : (k : Key) (x : Record Key Value) → old k ≡ Some x → placed k ≡ Some x
    still k x h = other k (λ q. none_some (sym none ∙ ap old q ∙ h)) ∙ h

    no_member : (j k : Key) (x : Record Key Value) → key ≡ k → placed k ≡ Some x → IsMember j x.groups → ⊥
    no_member j k x q h m = not_in (subst (λ (y : Record Key Value). IsMember j y.groups) (sym (some_is (sym there ∙ ap placed q ∙ h))) m).1 g

-- where a record without groups was put after the others
module _ (old placed : Records) (key : Key) (p : NodeRecord) (value : Value) (version : ℕ) (e : placed ≡ old ++ (key, p) ∷ []) (none : kept_at old key ≡ None)
    (is : row_of p ≡ record { value = value; groups = []; settled_at = version; changed_at = version; dirty = false }) (asks : AsksNumbers old) where
  grown : Grows old placed
  grown = record { more = key ∷ []; keys = ap (λ (es : Records). keys_of es) e ∙ map-append (λ (x : Key × NodeRecord). x.0) old ((key, p) ∷ []) }

  at_key : kept_at placed key ≡ Some p
  at_key = ap (λ (es : Records). kept_at es key) e ∙ value_pushed old key p none

  at_others : (k : Key) → key ≢ k → kept_at placed k ≡ kept_at old k
  at_others k n = ap (λ (es : Records). kept_at es k) e ∙ others_pushed old key p k n

  pub placed_there : records_of placed key ≡ Some (settled_record None value [] version)
  placed_there = ap (option_map (record_of (keys_of placed))) at_key ∙ ap (λ (r : Record ℕ Value). Some (by_keys (keys_of placed) r)) is

  pub placed_others : (k : Key) → key ≢ k → records_of placed k ≡ records_of old k
  placed_others k n = ap (option_map (record_of (keys_of placed))) (at_others k n) ∙ go (kept_at old k) refl
    where
      go : (o : Option NodeRecord) → kept_at old k ≡ o → option_map (record_of (keys_of placed)) (kept_at old k) ≡ records_of old k
      go None q = ap (option_map (record_of (keys_of placed))) q ∙ sym (ap (option_map (record_of (keys_of old))) q)
      go (Some x) q =
          ap (option_map (record_of (keys_of placed))) q
          ∙ ap (λ gs. Some (record { value = arc_value x.value; groups = gs; settled_at = x.settled_at; changed_at = x.changed_at; dirty = x.dirty })) (groups_stay old placed grown x.groups (asks k x q))
          ∙ sym (ap (option_map (record_of (keys_of old))) q)

  pub placed_asks : AsksNumbers placed
  placed_asks k x h = elim (decide_key key k) [
    | inl q ↦
        let same : p ≡ x = some_is (sym at_key ∙ ap (kept_at placed) q ∙ h) in
        subst (λ (gs : List (List ℕ)). All (All (λ n. n < length placed)) gs) (sym (ap (λ (r : Record ℕ Value). r.groups) is) ∙ ap (λ (y : NodeRecord). y.groups) same) (All-nil (All (λ n. n < length placed)))
    | inr n ↦ all_below (length old) (length placed) (let l = ap length e ∙ length-append old ((key, p) ∷ []) in omega arith) x.groups (asks k x (sym (at_others k n) ∙ h))
  ]

pub absent : (o : Option NodeRecord) (b : Bool) → b ≡ is_some o → b ≡ false → o ≡ None
absent None b e f = refl
absent (Some x) b e f = cc

-- a key with a number has a record
pub numbered_there : (es : Records) (k : Key) (n : ℕ) → number_of es k ≡ Some n → is_some (kept_at es k) ≡ true
numbered_there es k n h = sym (some_index (key_eq k) es) ∙ ap is_some h

last_key : (es : Records) (k : Key) (e : NodeRecord) → key_at (es ++ (k, e) ∷ []) (length es) ≡ Some k
last_key [] k e = refl
last_key (x ∷ es) k e = last_key es k e

-- the number of the last key
pub placed_number : (old placed : Records) (k : Key) (e : NodeRecord) (n : ℕ) → placed ≡ old ++ (k, e) ∷ [] → AreDistinct placed → n ≡ length old → number_of placed k ≡ Some n
placed_number old placed k e n p d q =
    (number_iff placed d k n).1 (subst (λ (es : Records). key_at es n ≡ Some k) (sym p) (subst (λ m. key_at (old ++ (k, e) ∷ []) m ≡ Some k) (sym q) (last_key old k e)))

pub present_at : (keys : List Key) (o : Option NodeRecord) (b : Bool) → b ≡ is_some o → b ≡ true → IsSome (option_map (record_of keys) o)
present_at keys None b e t = absurd (true_false t e)
present_at keys (Some x) b e t = refl

-- a key with a number is recorded
pub recorded_at : (es : Records) (k : Key) (n : ℕ) → number_of es k ≡ Some n → IsSome (records_of es k)
recorded_at es k n h = present_at (keys_of es) (kept_at es k) true (sym (numbered_there es k n h)) refl

-- what a contract of the graph sees of it
module _ (old : Records) (version : ℕ) (was : GraphView) (b : recorded version old ≡ was) where
  pub seen_was : record_at was ≡ records_of old
  seen_was = ap record_at (sym b) ∙ seen_all old version

  pub ready_seen : (key : Key) (groups : List (List Key)) → HasReadyMembers (record_at was) key groups → HasReadyMembers (records_of old) key groups
  ready_seen key groups r = subst (λ (f : Key → Option (Record Key Value)). HasReadyMembers f key groups) seen_was r

  pub stored_seen : (new : Records) (key : Key) (value : Value) (groups : List (List Key)) → Sets (records_of old) (records_of new) key (settled_record (records_of old key) value groups version)
      → Sets (record_at was) (record_at (recorded version new)) key (settled_record (record_at was key) value groups was.version)
  stored_seen new key value groups s =
      subst (λ (n : ℕ). Sets (record_at was) (record_at (recorded version new)) key (settled_record (record_at was key) value groups n)) (ap (λ (x : GraphView). x.version) b)
      (subst (λ (f : Key → Option (Record Key Value)). Sets f (record_at (recorded version new)) key (settled_record (f key) value groups version)) (sym seen_was)
      (subst (λ (f : Key → Option (Record Key Value)). Sets (records_of old) f key (settled_record (records_of old key) value groups version)) (sym (seen_all new version)) s))
