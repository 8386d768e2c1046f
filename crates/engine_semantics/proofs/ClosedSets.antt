-- A set of keys that asks only its own members, and whose leaves read alike in two states of the files, has the same
-- values in both.
use Rattle.std.proofs.Common.{◌≡◌, List, [], Option, None, refl, subst}
use Rattle.std.specs.List.{AllByRecursion}
use Rattle.engine_semantics.specs.Reply.{Reply}
use Rattle.engine_semantics.specs.Value.{Grounded, is_leaf, has_run, Turns, ends, asks, AllGrounded, none, one, IsUngrounded, First, at_head, further, Stops, here, later, EachMember}
use Rattle.engine_semantics.proofs.Unique.{same_values}

module _ {K V : Type 0} (next : K → List V → Reply K V) (read : K → Option V) where
  -- the first of a weaker property
  first_map : {P Q : K → Type 0} → ((k : K) → P k → Q k) → {ks : List K} {j : K} → First next read P ks j → First next read Q ks j
  first_map f (at_head p) = at_head (f _ p)
  first_map f (further g m) = further g (first_map f m)

  pub stops_map : {P Q : K → Type 0} → ((k : K) → P k → Q k) → {k : K} {a : List V} {gs : List (List K)} {j : K} → Stops next read P k a gs j → Stops next read Q k a gs j
  stops_map f (here e m) = here e (first_map f m)
  stops_map f (later e g s) = later e g (stops_map f s)

  -- where each key of a set stops at a key of the set, none is grounded
  module _ (P : K → Type 0) (none_is_leaf : (k : K) → P k → read k ≡ None) (each_stops : (k : K) → P k → (gs : List (List K)) × (j : K) × Stops next read P k [] gs j) where
    mutual
      pub never : {k : K} {v : V} → Grounded next read k v → P k → ⊥
      never {k = k} (is_leaf e) p = let f = none_is_leaf k p in cc
      never {k = k} (has_run e t) p = let s = each_stops k p in never_turns t s.2 refl refl

      never_turns : {k l : K} {a b : List V} {gs hs : List (List K)} {v : V} {j : K} → Turns next read k a gs v → Stops next read P l b hs j → k ≡ l → a ≡ b → ⊥
      never_turns (ends e) (here f m) h i = cc
      never_turns (ends e) (later f g s) h i = cc
      never_turns (asks {group = xs} e g t) (here {group = ys} f m) h i = let q : xs ≡ ys = cc in never_all g m q
      never_turns (asks {group = xs} e g t) (later {group = ys} f g' s) h i = let q : xs ≡ ys = cc in let r = same_values next read g g' q in never_turns t s h (cc)

      never_all : {ks ls : List K} {vs : List V} {j : K} → AllGrounded next read ks vs → First next read P ls j → ks ≡ ls → ⊥
      never_all none (at_head p) h = cc
      never_all none (further f m) h = cc
      never_all (one {k = k} {keys = ks} e g) (at_head {j = l} p) h = let q : l ≡ k = cc in never e (subst P q p)
      never_all (one {k = k} {keys = ks} e g) (further {keys = ls} f m) h = let q : ks ≡ ls = cc in never_all g m q

  -- a key that stops is not grounded
  mutual
    stops_ends : {k l : K} {a b : List V} {gs hs : List (List K)} {v : V} {j : K} → Turns next read k a gs v → Stops next read (IsUngrounded next read) l b hs j → k ≡ l → a ≡ b → ⊥
    stops_ends (ends e) (here f m) h i = cc
    stops_ends (ends e) (later f g s) h i = cc
    stops_ends (asks {group = xs} e g t) (here {group = ys} f m) h i = let q : xs ≡ ys = cc in stops_all g m q
    stops_ends (asks {group = xs} e g t) (later {group = ys} f g' s) h i = let q : xs ≡ ys = cc in let r = same_values next read g g' q in stops_ends t s h (cc)

    stops_all : {ks ls : List K} {vs : List V} {j : K} → AllGrounded next read ks vs → First next read (IsUngrounded next read) ls j → ks ≡ ls → ⊥
    stops_all none (at_head p) h = cc
    stops_all none (further f m) h = cc
    stops_all (one {k = k} {v = v} {keys = ks} e g) (at_head {j = l} p) h = let q : k ≡ l = cc in p v (subst (λ x. Grounded next read x v) q e)
    stops_all (one {k = k} {keys = ks} e g) (further {keys = ls} f m) h = let q : ks ≡ ls = cc in stops_all g m q

  pub ungrounded : {k : K} {gs : List (List K)} {j : K} → read k ≡ None → Stops next read (IsUngrounded next read) k [] gs j → IsUngrounded next read k
  ungrounded n s v (is_leaf e) = cc
  ungrounded n s v (has_run e t) = stops_ends t s refl refl

  -- a key stops at one member, after one list of groups
  same_first : {ks ls : List K} {i j : K} → First next read (IsUngrounded next read) ks i → First next read (IsUngrounded next read) ls j → ks ≡ ls → i ≡ j
  same_first (at_head p) (at_head q) h = cc
  same_first (at_head {j = i} p) (further {k = l} {v = v} g m) h = let q : l ≡ i = cc in absurd (p v (subst (λ x. Grounded next read x v) q g))
  same_first (further {k = k} {v = v} g m) (at_head {j = j} p) h = let q : k ≡ j = cc in absurd (p v (subst (λ x. Grounded next read x v) q g))
  same_first (further {keys = ks} g m) (further {keys = ls} f n) h = let q : ks ≡ ls = cc in same_first m n q

  pub same_stops : {k l : K} {a b : List V} {gs hs : List (List K)} {i j : K} → Stops next read (IsUngrounded next read) k a gs i → Stops next read (IsUngrounded next read) l b hs j → k ≡ l → a ≡ b → (gs ≡ hs) × (i ≡ j)
  same_stops (here {group = xs} e m) (here {group = ys} f n) h i = let q : xs ≡ ys = cc in (cc, same_first m n q)
  same_stops (here {group = xs} e m) (later {group = ys} f g s) h i = let q : ys ≡ xs = cc in absurd (stops_all g m q)
  same_stops (later {group = xs} e g s) (here {group = ys} f m) h i = let q : xs ≡ ys = cc in absurd (stops_all g m q)
  same_stops (later {group = xs} e g s) (later {group = ys} f g' t) h i =
      let q : xs ≡ ys = cc in
      let r = same_values next read g g' q in
      let u = same_stops s t h (cc) in
      (cc, u.1)

  -- where it stops is a member of the groups
  first_member : (S : K → Type 0) {P : K → Type 0} {ks : List K} {j : K} → First next read P ks j → AllByRecursion S ks → S j
  first_member S (at_head p) m = m.0
  first_member S (further g f) m = first_member S f m.1

  pub stops_member : (S : K → Type 0) {P : K → Type 0} {k : K} {a : List V} {gs : List (List K)} {j : K} → Stops next read P k a gs j → EachMember S gs → S j
  stops_member S (here e f) m = first_member S f m.0
  stops_member S (later e g s) m = stops_member S s m.1
