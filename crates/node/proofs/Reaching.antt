-- Records are marked dirty one key at a time.
use Rattle.std.proofs.Common.{◌≡◌, inl, inr, ℕ, ◌+◌, ◌<◌, ◌≤◌, true, false, List, [], ◌∷◌, ◌++◌, Some, refl, sym, ◌∙◌, ap, subst, length, take, arith, append-nil, append_assoc, slice_index_or}
use Rattle.std.proofs.lemmas.List.{take-append-le, length-append}
use Rattle.std.proofs.Math.Seq.{take_all}
use Rattle.engine_semantics.specs.Value.{In, first}
use Rattle.std.specs.Map.{keys_of}
use Rattle.node_table.specs.Tables.{Writes, key_at}
use Rattle.node_table.specs.Flats.{members_in}
use Rattle.keys.specs.declared.key.Key.{Key}
use Rattle.node.specs.declared.records.NodeRecord.{NodeRecord}
use Rattle.node.specs.Records.{Records, Users, kept_at, numbers_of, users_at}
use Rattle.node.specs.Marks.{IsDirty, IsReached, at_leaf, by_user, Marked, HasReached, HasReachedSome, HasReachedAll, HasSpread, HasPassed, Lists}
pub use Rattle.node.proofs.Numbering.{one_more, in_at, in_at_is}
use Rattle.node.proofs.Numbering.{members_same, members_pushed}
use Rattle.node.proofs.Lists.{in_split, in_left, in_right, in_one, not_in, some_is, true_false, same_or_value}
use Rattle.node.proofs.Showing.{writes_lists}

module _ (old new : Records) (before now : List Key) (key : Key) where
  -- the record of the key is dirty
  module _ (e : NodeRecord) (had : kept_at old key ≡ Some e) (clean : e.dirty ≡ false) (u : Writes old new key (record e { dirty = true })) where
    now_dirty : IsDirty new key
    now_dirty x h = let q : record e { dirty = true } ≡ x = some_is (sym u.there ∙ h) in ap (λ (y : NodeRecord). y.dirty) (sym q)

    still_dirty : (k : Key) → IsDirty old k → IsDirty new k
    still_dirty k d = elim (same_or_value old new key _ u k) [ inl q ↦ subst (IsDirty new) q now_dirty | inr q ↦ λ x h. d x (sym q ∙ h) ]

    -- it was not listed
    fresh : (users : Users) (leaves : List Key) (original : Records) → Marked users leaves original old before → In key before → ⊥
    fresh users leaves original m i = let p = m.each key i in
        let q : e ≡ record p.0 { dirty = true } = some_is (sym had ∙ p.3) in true_false (ap (λ (y : NodeRecord). y.dirty) q) clean

    more_marked : (users : Users) (leaves : List Key) (original : Records) → Marked users leaves original old before → IsReached users leaves key → Marked users leaves original new (before ++ key ∷ [])
    more_marked users leaves original m r = record {
      each = λ k i. elim (in_split i before (key ∷ []) refl) [
        | inl a ↦ elim (same_or_value old new key _ u k) [
          | inl q ↦ absurd (fresh users leaves original m (subst (λ x. In x before) (sym q) a))
          | inr q ↦ let p = m.each k a in (p.0, p.1, p.2, q ∙ p.3, p.4)
        ]
        | inr b ↦ let Each : Key → Type 0 = λ x. (y : NodeRecord) × (kept_at original x ≡ Some y) × (y.dirty ≡ false) × (kept_at new x ≡ Some (record y { dirty = true })) × IsReached users leaves x in
            subst Each (sym (in_one b)) (e, was, clean, u.there, r)
      ];
      rest = λ k. elim (same_or_value old new key _ u k) [
        | inl q ↦ inl (in_right before (subst (λ x. In x (key ∷ [])) q first))
        | inr q ↦ elim (m.rest k) [ inl a ↦ inl (in_left (key ∷ []) a) | inr p ↦ inr (q ∙ p) ]
      ];
    }
      where
        was : kept_at original key ≡ Some e
        was = elim (m.rest key) [ inl a ↦ absurd (fresh users leaves original m a) | inr p ↦ sym p ∙ had ]

  pub reached_dirty : HasReached old new before now key → IsDirty new key
  reached_dirty (inl s) = subst (λ t. IsDirty t key) (sym s.0) s.2
  reached_dirty (inr s) = now_dirty s.0 s.1 s.2 s.3

  pub reached_still : HasReached old new before now key → (k : Key) → IsDirty old k → IsDirty new k
  reached_still (inl s) k d = subst (λ t. IsDirty t k) (sym s.0) d
  reached_still (inr s) k d = still_dirty s.0 s.1 s.2 s.3 k d

  reached_marked : HasReached old new before now key → (users : Users) (leaves : List Key) (original : Records) → Marked users leaves original old before → IsReached users leaves key → Marked users leaves original new now
  reached_marked (inl s) users leaves original m r = subst (λ t. Marked users leaves original t now) (sym s.0) (subst (Marked users leaves original old) (sym s.1) m)
  reached_marked (inr s) users leaves original m r = subst (Marked users leaves original new) (sym s.5) (more_marked s.0 s.1 s.2 s.3 users leaves original m r)

  reached_keys : HasReached old new before now key → keys_of new ≡ keys_of old
  reached_keys (inl s) = ap (λ (es : Records). keys_of es) s.0
  reached_keys (inr s) = s.4

  reached_lists : HasReached old new before now key → (j : Key) → numbers_of new j ≡ numbers_of old j
  reached_lists (inl s) j = ap (λ (es : Records). numbers_of es j) s.0
  reached_lists (inr s) j = writes_lists old new key s.0 (record s.0 { dirty = true }) s.1 refl s.3 j

  reached_grows : HasReached old new before now key → (more : List Key) × (now ≡ before ++ more)
  reached_grows (inl s) = ([], s.1 ∙ sym (append-nil before))
  reached_grows (inr s) = (key ∷ [], s.5)

  -- one key after others
  pub some_more : (start : Records) (begun keys : List Key) → HasReachedSome start old begun before keys → HasReached old new before now key → In key keys → HasReachedSome start new begun now keys
  some_more start begun keys s h i = record {
    marks = λ users leaves original m r. reached_marked h users leaves original (s.marks users leaves original m r) (r key i);
    still = λ k d. reached_still h k (s.still k d);
    same_keys = reached_keys h ∙ s.same_keys;
    same_lists = λ j. reached_lists h j ∙ s.same_lists j;
    more = s.more ++ (reached_grows h).0;
    grows = (reached_grows h).1 ∙ ap (λ xs. xs ++ (reached_grows h).0) s.grows ∙ append_assoc begun s.more (reached_grows h).0;
  }

module _ (users : Users) (start old new : Records) (begun before now : List Key) (j : Key) where
  -- from a listed key to its reverse dependencies
  pub spread_more : HasSpread users start old begun before → HasReachedSome old new before now (users_at users j) → In j before → HasSpread users start new begun now
  spread_more s h i = record {
    marks = λ leaves original m. let p = s.marks leaves original m in h.marks users leaves original p (λ k u. by_user (p.each j i).4 u);
    still = λ k d. h.still k (s.still k d);
    same_keys = h.same_keys ∙ s.same_keys;
    same_lists = λ j. h.same_lists j ∙ s.same_lists j;
  }

module _ (users : Users) (old new : Records) (before now : List ℕ) (at n : ℕ) where
  -- the reverse dependencies of one more listed key are dirty
  pub passed_more : (j : Key) → key_at old n ≡ Some j → n ≡ slice_index_or before at n → at < length before → HasPassed users old (members_in old (take at before))
      → HasReachedSome old new (members_in old before) (members_in new now) (users_at users j) → Lists old before now → HasReachedAll new (users_at users j) → HasPassed users new (members_in new (take (at + 1) now))
  passed_more j e q l p s g a = λ i m k u. elim (in_split m (members_in old (take at before)) (j ∷ []) these) [
    | inl x ↦ s.still k (p i x k u)
    | inr x ↦ a k (subst (λ y. In k (users_at users y)) (in_one x) u)
  ]
    where
      numbers : take (at + 1) now ≡ take at before ++ n ∷ []
      numbers =
          ap (take (at + 1)) g.1 ∙ take-append-le (at + 1) before g.0 (omega arith) ∙ one_more before at n l ∙ ap (λ y. take at before ++ y ∷ []) (sym q)

      these : members_in new (take (at + 1) now) ≡ members_in old (take at before) ++ j ∷ []
      these = members_same old new s.same_keys (take (at + 1) now) ∙ ap (members_in old) numbers ∙ members_pushed old (take at before) n j e

  pub within_more : at < length before → Lists old before now → at + 1 ≤ length now
  within_more l g = let e = ap length g.1 ∙ length-append before g.0 in omega arith

pub all_passed : (users : Users) (records : Records) (marked : List ℕ) (at : ℕ) → HasPassed users records (members_in records (take at marked)) → length marked ≤ at → HasPassed users records (members_in records marked)
all_passed users records marked at p h = subst (λ (ns : List ℕ). HasPassed users records (members_in records ns)) (take_all at marked h) p

-- from the leaves on, with nothing listed before
pub from_leaves : (users : Users) (old middle : Records) (none listed leaves : List Key) → none ≡ [] → HasReachedSome old middle none listed leaves → Marked users leaves old middle listed
from_leaves users old middle none listed leaves e h = h.marks users leaves old start (λ k i. at_leaf i)
  where
    start : Marked users leaves old old none
    start = record { each = λ k i. absurd (not_in i e); rest = λ k. inr refl }

-- one more leaf
pub leaf_taken : (old new : Records) (before now leaves : List Key) (n : ℕ) (d leaf : Key) → leaf ≡ slice_index_or leaves n d → n < length leaves → HasReached old new before now leaf → HasReachedAll old (take n leaves) → HasReachedAll new (take (n + 1) leaves)
leaf_taken old new before now leaves n d leaf e l h a k i = elim (in_split i (take n leaves) (leaf ∷ []) (one_more leaves n d l ∙ ap (λ y. take n leaves ++ y ∷ []) (sym e))) [
  | inl x ↦ reached_still old new before now leaf h k (a k x)
  | inr x ↦ subst (IsDirty new) (sym (in_one x)) (reached_dirty old new before now leaf h)
]

-- one more reverse dependency
pub user_taken : (old new : Records) (before now : List Key) (k : Key) (keys next : List Key) → next ≡ keys ++ k ∷ [] → HasReached old new before now k → HasReachedAll old keys → HasReachedAll new next
user_taken old new before now k keys next e h a x i = elim (in_split i keys (k ∷ []) e) [
  | inl y ↦ reached_still old new before now k h x (a x y)
  | inr y ↦ subst (IsDirty new) (sym (in_one y)) (reached_dirty old new before now k h)
]
