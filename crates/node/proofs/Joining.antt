-- Sets of reverse dependencies.
use Rattle.std.proofs.Common.{◌≡◌, ◌≢◌, ◌⊎◌, inl, inr, ℕ, ◌+◌, ◌<◌, ◌≤◌, length, take, map, add-one, slice_index_or, Bool, true, false, ◌==◌, cond, not, ◌||◌, List, [], ◌∷◌, ◌++◌, Some, None, refl, sym, ◌∙◌, ap, subst}
use Rattle.std.specs.List.{list_any, filter}
use Rattle.std.specs.BTreeMap.{is_at}
use Rattle.std.specs.BTreeSet.{BTreeSet, contains, Updates}
use Rattle.std.specs.Ordering.{is_eq}
use Rattle.std.proofs.lemmas.Cmp.{tied_itself}
use Rattle.std.proofs.lemmas.Map.Views.{tells_apart}
use Rattle.engine_semantics.specs.Value.{In, first, after, IsMember}
use Rattle.keys.specs.Keys.{key_cmp, key_eq}
use Rattle.keys.specs.declared.key.Key.{Key}
use Rattle.keys.proofs.KeyLaws.{keys_total, exact_keys, exact_key_eq}
use Rattle.std.specs.declared.alloc.Global.{Global}
use Rattle.std.specs.declared.vec.Vec.{Vec}
use Rattle.std.proofs.lemmas.List.{map-append}
use Rattle.std.proofs.lemmas.Bool.{eq-eqb, eqb-true}
use Rattle.std.proofs.Math.Seq.{take-suc, take_all}
use Rattle.std.specs.Prelude.{Option, IfSome, IfNone}
use Rattle.node.specs.declared.records.NodeRecord.{NodeRecord}
use Rattle.node.specs.Records.{Records, UserLists, kept_at, numbers_of, rdep_ids, items_of}
use Rattle.node.specs.Edges.{IsAdded, IsRemoved, SameUsers, HasLinked, HasUnlinked, HasLinkedSome, HasLinkedAll, HasCut, AreMembers, among}
use Rattle.node_table.specs.Tables.{Writes}
use Rattle.node.proofs.Lists.{true_false, decide_key, not_in, in_split, in_one, in_left, in_right}
use Rattle.node.proofs.Numbering.{in_at_is}

or_right : (a b : Bool) → b ≡ true → a || b ≡ true
or_right true b e = refl
or_right false b e = e

pub itself : (k : Key) → is_at (key_cmp k) k ≡ true
itself k = ap is_eq (tied_itself keys_total k)

-- a set has the keys of its list
pub has_in : (set : BTreeSet Key) (k : Key) → In k set.keys → contains key_cmp set k ≡ true
has_in set k i = go set.keys i
  where
    go : (ks : List Key) → In k ks → list_any (is_at (key_cmp k)) ks ≡ true
    go [] i = elim i [ ]
    go (x ∷ ks) first = ap (λ b. b || list_any (is_at (key_cmp k)) ks) (itself k)
    go (x ∷ ks) (after i) = or_right (is_at (key_cmp k) x) (list_any (is_at (key_cmp k)) ks) (go ks i)

pub in_has : (set : BTreeSet Key) (k : Key) → contains key_cmp set k ≡ true → In k set.keys
in_has set k h = go set.keys h
  where
    go : (ks : List Key) → list_any (is_at (key_cmp k)) ks ≡ true → In k ks
    go [] h = absurd (true_false h refl)
    go (x ∷ ks) h = by (is_at (key_cmp k) x) refl (go ks)
      where
        by : (b : Bool) → is_at (key_cmp k) x ≡ b → (list_any (is_at (key_cmp k)) ks ≡ true → In k ks) → In k (x ∷ ks)
        by true t f = subst (λ y. In k (y ∷ ks)) (tells_apart exact_keys k x t) first
        by false t f = after (f (ap (λ b. b || list_any (is_at (key_cmp k)) ks) (sym t) ∙ h))

module _ (old new : BTreeSet Key) (key : Key) where
  pub set_added : Updates key_cmp old new key true → IsAdded old.keys new.keys key
  set_added u = record {
    from = λ k i. from k i (is_at (key_cmp key) k) refl;
    keeps = λ k i. keeps k i (is_at (key_cmp key) k) refl;
    has = in_has new key u.1;
  }
    where
      from : (k : Key) → In k new.keys → (b : Bool) → is_at (key_cmp key) k ≡ b → In k old.keys ⊎ (key ≡ k)
      from k i true t = inr (tells_apart exact_keys key k t)
      from k i false t = inl (in_has old k (sym (u.2 k t) ∙ has_in new k i))

      keeps : (k : Key) → In k old.keys → (b : Bool) → is_at (key_cmp key) k ≡ b → In k new.keys
      keeps k i true t = in_has new k (u.0 k ∙ ap (λ b. cond b true (contains key_cmp old k)) t)
      keeps k i false t = in_has new k (u.2 k t ∙ has_in old k i)

  pub set_removed : Updates key_cmp old new key false → IsRemoved old.keys new.keys key
  set_removed u = record {
    from = λ k i. from k i (is_at (key_cmp key) k) refl;
    keeps = λ k i. keeps k i (is_at (key_cmp key) k) refl;
    gone = λ i. true_false (has_in new key i) u.1;
  }
    where
      from : (k : Key) → In k new.keys → (b : Bool) → is_at (key_cmp key) k ≡ b → In k old.keys
      from k i true t = absurd (true_false (has_in new k i) (u.0 k ∙ ap (λ b. cond b false (contains key_cmp old k)) t))
      from k i false t = in_has old k (sym (u.2 k t) ∙ has_in new k i)

      keeps : (k : Key) → In k old.keys → (b : Bool) → is_at (key_cmp key) k ≡ b → In k new.keys ⊎ (key ≡ k)
      keeps k i true t = inr (tells_apart exact_keys key k t)
      keeps k i false t = inl (in_has new k (u.2 k t ∙ has_in old k i))

-- a reverse dependency is added to a list, or taken out
pub list_added : {X : Type 0} (list : List X) (key : X) → IsAdded list (list ++ key ∷ []) key
list_added list key = record {
  from = λ k i. elim (in_split i list (key ∷ []) refl) [ inl a ↦ inl a | inr b ↦ inr (sym (in_one b)) ];
  keeps = λ k i. in_left (key ∷ []) i;
  has = in_right list first;
}

one_of : {k x : ℕ} {xs : List ℕ} → In k (x ∷ xs) → (x ≡ k) ⊎ In k xs
one_of first = inl refl
one_of (after i) = inr i

in_filter : {k : ℕ} (test : ℕ → Bool) (xs : List ℕ) → In k (filter test xs) → In k xs × (test k ≡ true)
in_filter test [] i = elim i [ ]
in_filter {k} test (x ∷ xs) i = go (test x) refl i (λ a. in_filter test xs a)
  where
    go : (b : Bool) → test x ≡ b → In k (cond b (x ∷ filter test xs) (filter test xs)) → (In k (filter test xs) → In k xs × (test k ≡ true)) → In k (x ∷ xs) × (test k ≡ true)
    go true t i f = elim (one_of i) [
      | inl q ↦ (subst (λ y. In y (x ∷ xs)) q first, subst (λ y. test y ≡ true) q t)
      | inr a ↦ let r = f a in (after r.0, r.1)
    ]
    go false t i f = let r = f i in (after r.0, r.1)

filter_in : {k : ℕ} (test : ℕ → Bool) (xs : List ℕ) → In k xs → test k ≡ true → In k (filter test xs)
filter_in test [] i h = elim i [ ]
filter_in {k} test (x ∷ xs) i h = go (test x) refl (λ a. filter_in test xs a h)
  where
    go : (b : Bool) → test x ≡ b → (In k xs → In k (filter test xs)) → In k (cond b (x ∷ filter test xs) (filter test xs))
    go true t f = elim (one_of i) [ inl q ↦ subst (λ y. In y (x ∷ filter test xs)) q first | inr a ↦ after (f a) ]
    go false t f = elim (one_of i) [ inl q ↦ absurd (true_false (subst (λ y. test y ≡ true) (sym q) h) t) | inr a ↦ f a ]

same_number : (m n : ℕ) → m == n ≡ true → n ≡ m
same_number m n h = sym (eqb-true m n h)

number_itself : (n : ℕ) → n == n ≡ true
number_itself n = eq-eqb n n refl

pub list_removed : (list : List ℕ) (n : ℕ) → IsRemoved list (filter (λ m. not (m == n)) list) n
list_removed list n = record {
  from = λ k i. (in_filter (λ m. not (m == n)) list i).0;
  keeps = λ k i. keeps k i (k == n) refl;
  gone = λ i. true_false (in_filter (λ m. not (m == n)) list i).1 (ap not (number_itself n));
}
  where
    keeps : (k : ℕ) → In k list → (b : Bool) → k == n ≡ b → In k (filter (λ m. not (m == n)) list) ⊎ (n ≡ k)
    keeps k i true t = inr (same_number k n t)
    keeps k i false t = inl (filter_in (λ m. not (m == n)) list i (ap not t))

-- a member's list is changed
module _ {X : Type 0} (old new : Key → List X) (member : Key) (key : X) (list : List X) (there : new member ≡ list) (elsewhere : (j : Key) → member ≢ j → new j ≡ old j) where
  at_member : (j : Key) → member ≡ j → new j ≡ list
  at_member j q = ap new (sym q) ∙ there

  pub linked : IsAdded (old member) list key → HasLinked old new member key
  linked a = record {
    from = λ j k i. elim (decide_key member j) [
      | inl q ↦ elim (a.from k (subst (In k) (at_member j q) i)) [ inl x ↦ inl (subst (λ m. In k (old m)) q x) | inr x ↦ inr (q, x) ]
      | inr n ↦ inl (subst (In k) (elsewhere j n) i)
    ];
    keeps = λ j k i. elim (decide_key member j) [
      | inl q ↦ subst (In k) (sym (at_member j q)) (a.keeps k (subst (λ m. In k (old m)) (sym q) i))
      | inr n ↦ subst (In k) (sym (elsewhere j n)) i
    ];
    has = subst (In key) (sym (at_member member refl)) a.has;
  }

  pub unlinked : IsRemoved (old member) list key → HasUnlinked old new member key
  unlinked a = record {
    from = λ j k i. elim (decide_key member j) [
      | inl q ↦ subst (λ m. In k (old m)) q (a.from k (subst (In k) (at_member j q) i))
      | inr n ↦ subst (In k) (elsewhere j n) i
    ];
    keeps = λ j k i. elim (decide_key member j) [
      | inl q ↦ elim (a.keeps k (subst (λ m. In k (old m)) (sym q) i)) [ inl x ↦ inl (subst (In k) (sym (at_member j q)) x) | inr x ↦ inr (q, x) ]
      | inr n ↦ inl (subst (In k) (sym (elsewhere j n)) i)
    ];
    gone = λ i. a.gone (subst (In key) (at_member member refl) i);
  }

  pub same_set : list ≡ old member → SameUsers old new
  same_set e j = elim (decide_key member j) [ inl q ↦ at_member j q ∙ e ∙ ap old q | inr n ↦ elsewhere j n ]

-- more members
module _ {X : Type 0} (old middle new : Key → List X) (key : X) (M : Key → Type 0) where
  pub linked_more : (m : Key) → HasLinkedSome old middle key M → HasLinked middle new m key → M m → HasLinkedSome old new key M
  linked_more m s h i = record {
    from = λ j k x. elim (h.from j k x) [ inl y ↦ s.from j k y | inr y ↦ inr (subst M y.0 i, y.1) ];
    keeps = λ j k x. h.keeps j k (s.keeps j k x);
  }

  pub linked_same : HasLinkedSome old middle key M → SameUsers middle new → HasLinkedSome old new key M
  linked_same s h = record {
    from = λ j k x. s.from j k (subst (In k) (h j) x);
    keeps = λ j k x. subst (In k) (sym (h j)) (s.keeps j k x);
  }

  pub linked_some : (N : Key → Type 0) → HasLinkedSome old middle key M → HasLinkedSome middle new key N → ((j : Key) → N j → M j) → HasLinkedSome old new key M
  linked_some N s h f = record {
    from = λ j k x. elim (h.from j k x) [ inl y ↦ s.from j k y | inr y ↦ inr (f j y.0, y.1) ];
    keeps = λ j k x. h.keeps j k (s.keeps j k x);
  }

pub cut_none : {X : Type 0} (users : Key → List X) (key : X) (M K : Key → Type 0) → ((j : Key) → M j → ⊥) → HasCut users users key M K
cut_none users key M K f = record { from = λ j k x. x; gone = λ j m. absurd (f j m); others = λ j k n x. x; kept = λ j k x. x }

module _ {X : Type 0} (old middle new : Key → List X) (key : X) (M N K : Key → Type 0) where
  -- one more member is cut, or kept
  pub cut_more : (m : Key) → HasCut old middle key M K → HasUnlinked middle new m key → (K m → ⊥) → ((j : Key) → N j → M j ⊎ (m ≡ j)) → HasCut old new key N K
  cut_more m s h n f = record {
    from = λ j k x. s.from j k (h.from j k x);
    gone = λ j i g x. elim (f j i) [ inl y ↦ s.gone j y g (h.from j key x) | inr y ↦ h.gone (subst (λ z. In key (new z)) (sym y) x) ];
    others = λ j k d x. elim (h.keeps j k (s.others j k d x)) [ inl y ↦ y | inr y ↦ absurd (d y.1) ];
    kept = λ j i x. elim (h.keeps j key (s.kept j i x)) [ inl y ↦ y | inr y ↦ absurd (n (subst K (sym y.0) i)) ];
  }

  pub cut_kept : (m : Key) → HasCut old middle key M K → K m → ((j : Key) → N j → M j ⊎ (m ≡ j)) → HasCut old middle key N K
  cut_kept m s g f = record {
    from = s.from;
    gone = λ j i d x. elim (f j i) [ inl y ↦ s.gone j y d x | inr y ↦ absurd (d (subst K y g)) ];
    others = s.others;
    kept = s.kept;
  }

  pub cut_both : (L : Key → Type 0) → HasCut old middle key M K → HasCut middle new key L K → ((j : Key) → N j → M j ⊎ L j) → HasCut old new key N K
  cut_both L s h f = record {
    from = λ j k x. s.from j k (h.from j k x);
    gone = λ j i d x. elim (f j i) [ inl y ↦ s.gone j y d (h.from j key x) | inr y ↦ h.gone j y d x ];
    others = λ j k d x. h.others j k d (s.others j k d x);
    kept = λ j i x. h.kept j i (s.kept j i x);
  }

-- a member of the groups, by the test
either : (a b : Bool) → a || b ≡ true → (a ≡ true) ⊎ (b ≡ true)
either true b e = inl refl
either false b e = inr e

or_left : (a b : Bool) → a ≡ true → a || b ≡ true
or_left true b e = refl
or_left false b e = absurd (true_false e refl)

among_one : (group : List Key) (key : Key) → list_any (λ k. key_eq k key) group ≡ true → In key group
among_one [] key h = absurd (true_false h refl)
among_one (x ∷ group) key h = elim (either (key_eq x key) (list_any (λ k. key_eq k key) group) h) [
  | inl t ↦ subst (λ y. In y (x ∷ group)) ((exact_key_eq x key).0 t) first
  | inr t ↦ after (among_one group key t)
]

one_among : {key : Key} {group : List Key} → In key group → list_any (λ k. key_eq k key) group ≡ true
one_among {key} (first {xs = xs}) = or_left (key_eq key key) (list_any (λ k. key_eq k key) xs) ((exact_key_eq key key).1 refl)
one_among {key} (after {y = y} {xs = xs} i) = or_right (key_eq y key) (list_any (λ k. key_eq k key) xs) (one_among i)

pub among_member : (groups : List (List Key)) (key : Key) → among groups key ≡ true → IsMember key groups
among_member [] key h = absurd (true_false h refl)
among_member (g ∷ groups) key h = elim (either (list_any (λ k. key_eq k key) g) (among groups key) h) [
  | inl t ↦ (g, first, among_one g key t)
  | inr t ↦ let m = among_member groups key t in (m.0, after m.1, m.2)
]

member_among : {g : List Key} (groups : List (List Key)) (key : Key) → In g groups → In key g → among groups key ≡ true
member_among [] key m i = elim m [ ]
member_among (g ∷ groups) key first i = or_left (list_any (λ k. key_eq k key) g) (among groups key) (one_among i)
member_among (x ∷ groups) key (after m) i = or_right (list_any (λ k. key_eq k key) x) (among groups key) (member_among groups key m i)

pub not_among : (groups : List (List Key)) (key : Key) → among groups key ≡ false → IsMember key groups → ⊥
not_among groups key h m = true_false (member_among groups key m.1 m.2) h

-- the same of the reverse dependencies that are in a record
module _ (old new : Records) (member : Key) (user : ℕ) (e w : NodeRecord) (u : Writes old new member w) (had : Some e ≡ kept_at old member) where
  list_now : numbers_of new member ≡ w.users
  list_now = ap rdep_ids u.there

  lists_elsewhere : (j : Key) → member ≢ j → numbers_of new j ≡ numbers_of old j
  lists_elsewhere j n = ap rdep_ids (u.others j n)

  pub linked_through : w.users ≡ e.users ++ user ∷ [] → HasLinked (numbers_of old) (numbers_of new) member user
  linked_through a = linked (numbers_of old) (numbers_of new) member user w.users list_now lists_elsewhere
      (subst (λ l. IsAdded (numbers_of old member) l user) (sym (a ∙ ap (λ o. rdep_ids o ++ user ∷ []) had)) (list_added (numbers_of old member) user))

  pub unlinked_through : w.users ≡ filter (λ k. not (k == user)) e.users → HasUnlinked (numbers_of old) (numbers_of new) member user
  unlinked_through a = unlinked (numbers_of old) (numbers_of new) member user w.users list_now lists_elsewhere
      (subst (λ l. IsRemoved (numbers_of old member) l user) (sym (a ∙ ap (λ o. filter (λ k. not (k == user)) (rdep_ids o)) had)) (list_removed (numbers_of old member) user))

  pub same_through : w.users ≡ e.users → SameUsers (numbers_of old) (numbers_of new)
  same_through a = same_set (numbers_of old) (numbers_of new) member user w.users list_now lists_elsewhere (a ∙ ap rdep_ids had)

-- one more element of a list
pub in_taken : {X : Type 0} (xs : List X) (n : ℕ) (x j : X) → x ≡ slice_index_or xs n x → n < length xs → In j (take (n + 1) xs) → In j (take n xs) ⊎ (x ≡ j)
in_taken xs n x j e h i =
    let these : take (n + 1) xs ≡ take n xs ++ x ∷ [] = rw add-one (take-suc xs n x h) ∙ ap (λ y. take n xs ++ y ∷ []) (sym e) in
    elim (in_split i (take n xs) (x ∷ []) these) [ inl a ↦ inl a | inr b ↦ inr (sym (in_one b)) ]

pub is_in : {X : Type 0} (xs : List X) (n : ℕ) (x : X) → x ≡ slice_index_or xs n x → n < length xs → In x xs
is_in xs n x e h = in_at_is xs n x x e h

-- one more group
pub member_taken : (groups : List (Vec Key Global)) (n : ℕ) (g : Vec Key Global) (j : Key) → g ≡ slice_index_or groups n g → n < length groups → IsMember j (items_of (take (n + 1) groups)) → IsMember j (items_of (take n groups)) ⊎ In j g.items
member_taken groups n g j e h m = go these
  where
    these : items_of (take (n + 1) groups) ≡ items_of (take n groups) ++ g.items ∷ []
    these = ap items_of (rw add-one (take-suc groups n g h) ∙ ap (λ y. take n groups ++ y ∷ []) (sym e)) ∙ map-append (λ (x : Vec Key Global). x.items) (take n groups) (g ∷ [])

    go : items_of (take (n + 1) groups) ≡ items_of (take n groups) ++ g.items ∷ [] → IsMember j (items_of (take n groups)) ⊎ In j g.items
    go q = elim (in_split m.1 (items_of (take n groups)) (g.items ∷ []) q) [ inl a ↦ inl (m.0, a, m.2) | inr b ↦ inr (subst (In j) (in_one b) m.2) ]

in_mapped : {X Y : Type 0} (f : X → Y) {x : X} {xs : List X} → In x xs → In (f x) (map f xs)
in_mapped f first = first
in_mapped f (after i) = after (in_mapped f i)

pub group_member : (groups : List (Vec Key Global)) (n : ℕ) (g : Vec Key Global) (j : Key) → g ≡ slice_index_or groups n g → n < length groups → In j g.items → IsMember j (items_of groups)
group_member groups n g j e h i = (g.items, in_mapped (λ (x : Vec Key Global). x.items) (is_in groups n g e h), i)

pub one_linked_more : {X : Type 0} (old new : Key → List X) (key : X) (group : List Key) (n : ℕ) (m : Key) → m ≡ slice_index_or group n m → n < length group → HasLinked old new m key → HasLinkedAll old key (λ j. In j (take n group)) → HasLinkedAll new key (λ j. In j (take (n + 1) group))
one_linked_more old new key group n m e h l a j i = elim (in_taken group n m j e h i) [ inl x ↦ l.keeps j key (a j x) | inr x ↦ subst (λ y. In key (new y)) x l.has ]

-- of one member it was a reverse dependency
pub one_linked_same : {X : Type 0} (users : Key → List X) (key : X) (group : List Key) (n : ℕ) (m : Key) → m ≡ slice_index_or group n m → n < length group → In key (users m) → HasLinkedAll users key (λ j. In j (take n group)) → HasLinkedAll users key (λ j. In j (take (n + 1) group))
one_linked_same users key group n m e h l a j i = elim (in_taken group n m j e h i) [ inl x ↦ a j x | inr x ↦ subst (λ y. In key (users y)) x l ]

pub group_some : {X : Type 0} (start old new : Key → List X) (key : X) (groups : List (Vec Key Global)) (n : ℕ) (g : Vec Key Global) → g ≡ slice_index_or groups n g → n < length groups → HasLinkedSome start old key (λ j. IsMember j (items_of groups)) → (items : List Key) → items ≡ g.items → HasLinkedSome old new key (λ j. In j items) → HasLinkedSome start new key (λ j. IsMember j (items_of groups))
group_some start old new key groups n g e h s items q l = linked_some start old new key (λ j. IsMember j (items_of groups)) (λ j. In j items) s l (λ j i. group_member groups n g j e h (subst (In j) q i))

pub group_all : {X : Type 0} (old new : Key → List X) (key : X) (groups : List (Vec Key Global)) (n : ℕ) (g : Vec Key Global) → g ≡ slice_index_or groups n g → n < length groups → (items : List Key) → items ≡ g.items → HasLinkedSome old new key (λ j. In j items) → HasLinkedAll new key (λ j. In j items)
    → HasLinkedAll old key (λ j. IsMember j (items_of (take n groups))) → HasLinkedAll new key (λ j. IsMember j (items_of (take (n + 1) groups)))
group_all old new key groups n g e h items q s a b j i = elim (member_taken groups n g j e h i) [ inl x ↦ s.keeps j key (b j x) | inr x ↦ a j (subst (In j) (sym q) x) ]

pub group_cut : {X : Type 0} (start old new : Key → List X) (key : X) (groups : List (Vec Key Global)) (n : ℕ) (g : Vec Key Global) → g ≡ slice_index_or groups n g → n < length groups → (K : Key → Type 0) → HasCut start old key (λ j. IsMember j (items_of (take n groups))) K → (items : List Key) → items ≡ g.items → HasCut old new key (λ j. In j items) K → HasCut start new key (λ j. IsMember j (items_of (take (n + 1) groups))) K
group_cut start old new key groups n g e h K s items q l =
    cut_both start old new key (λ j. IsMember j (items_of (take n groups))) (λ j. IsMember j (items_of (take (n + 1) groups))) K (λ j. In j items) s l
    (λ j i. elim (member_taken groups n g j e h i) [ inl x ↦ inl x | inr x ↦ inr (subst (In j) (sym q) x) ])

-- after the last element
pub in_all : {X : Type 0} (xs : List X) (n : ℕ) (x : X) → length xs ≤ n → In x xs → In x (take n xs)
in_all xs n x h i = subst (In x) (sym (take_all n xs h)) i

pub member_all : (groups : List (Vec Key Global)) (n : ℕ) (j : Key) → length groups ≤ n → IsMember j (items_of groups) → IsMember j (items_of (take n groups))
member_all groups n j h m = subst (λ (gs : List (Vec Key Global)). IsMember j (items_of gs)) (sym (take_all n groups h)) m

-- fewer members were cut
pub cut_fewer : {X : Type 0} (old new : Key → List X) (key : X) (M N K : Key → Type 0) → ((j : Key) → N j → M j) → HasCut old new key M K → HasCut old new key N K
cut_fewer old new key M N K f c = record { from = c.from; gone = λ j m. c.gone j (f j m); others = c.others; kept = c.kept }

-- old members were cut, but those of the new groups; or there are no old ones
pub cut_by_members : (old new : UserLists) (key : ℕ) (numbers : List ℕ) (keys : List Key) (olds news : List (List Key)) (found : Option (BTreeSet Key)) → ((j : Key) → IsMember j olds → In j keys) → (numbers ≡ [] → keys ≡ [])
    → IfSome found (λ set. AreMembers set.keys news) → IfNone found (numbers ≡ []) → IfSome found (λ set. HasCut old new key (λ j. In j keys) (λ j. In j set.keys)) → IfNone found (new ≡ old)
    → HasCut old new key (λ j. IsMember j olds) (λ j. IsMember j news)
cut_by_members old new key numbers keys olds news None to none m e c n = subst (λ (x : UserLists). HasCut old x key (λ j. IsMember j olds) (λ j. IsMember j news)) (sym n)
    (cut_none old key (λ j. IsMember j olds) (λ j. IsMember j news) (λ j i. not_in (to j i) (none e)))
cut_by_members old new key numbers keys olds news (Some set) to none m e c n = record {
  from = c.from;
  gone = λ j i g x. c.gone j (to j i) (λ k. g ((m j).0 k)) x;
  others = c.others;
  kept = λ j k x. c.kept j ((m j).1 k) x;
}
