-- Elements of lists, and what a record of a table is after a change at one key.
use Rattle.std.specs.Result.{OnErr}
use Rattle.std.proofs.Common.{length, arith, Result, Ok, Err, ◌≡◌, ◌≢◌, ◌⊎◌, inl, inr, Bool, true, false, List, [], ◌∷◌, ◌++◌, Option, Some, None, refl, ap, subst}
use Rattle.std.specs.BTreeMap.{BTreeMap, get, Updates, is_at}
use Rattle.std.proofs.lemmas.Map.Views.{tells_apart}
use Rattle.engine_semantics.specs.Value.{In, first, after}
use Rattle.keys.specs.declared.key.Key.{Key}
use Rattle.keys.specs.Keys.{key_cmp}
use Rattle.keys.proofs.KeyLaws.{keys_total, exact_keys}
use Rattle.std.proofs.lemmas.Cmp.{tied_itself}
use Rattle.std.specs.Ordering.{is_eq}
use Rattle.node_table.specs.Tables.{value_of, Writes}

module _ {X : Type 0} where
  -- an element of two lists joined
  pub in_split : {x : X} {zs : List X} → In x zs → (xs ys : List X) → zs ≡ xs ++ ys → In x xs ⊎ In x ys
  in_split {x = k} (first {xs = ws}) [] ys e = inr (subst (In k) e first)
  in_split {x = k} (first {xs = ws}) (x ∷ xs) ys e = let q : k ≡ x = cc in inl (subst (λ y. In k (y ∷ xs)) q first)
  in_split {x = k} (after j) [] ys e = inr (subst (In k) e (after j))
  in_split {x = k} (after {xs = ws} j) (x ∷ xs) ys e = let q : ws ≡ xs ++ ys = cc in elim (in_split j xs ys q) [ inl a ↦ inl (after a) | inr b ↦ inr b ]

  pub in_left : {x : X} {xs : List X} (ys : List X) → In x xs → In x (xs ++ ys)
  in_left ys first = first
  in_left ys (after i) = after (in_left ys i)

  pub in_right : {x : X} (xs : List X) {ys : List X} → In x ys → In x (xs ++ ys)
  in_right [] i = i
  in_right (x ∷ xs) i = after (in_right xs i)

  pub not_in : {x : X} {xs : List X} → In x xs → xs ≡ [] → ⊥
  not_in first e = cc
  not_in (after i) e = cc

  pub in_one : {x y : X} → In x (y ∷ []) → x ≡ y
  in_one {x = k} {y = y} i = go i refl
    where
      go : {zs : List X} → In k zs → zs ≡ y ∷ [] → k ≡ y
      go first e = cc
      go (after {xs = ws} j) e = let q : ws ≡ [] = cc in absurd (not_in j q)

pub none_of : {X : Type 0} (xs : List X) → length xs ≡ 0 → xs ≡ []
none_of [] e = refl
none_of (x ∷ xs) e = absurd (omega arith)

pub some_is : {X : Type 0} {x y : X} → Some x ≡ Some y → x ≡ y
some_is h = cc

pub none_some : {X : Type 0} {x : X} → None ≡ Some x → ⊥
none_some h = cc

pub true_false : {b : Bool} → b ≡ true → b ≡ false → ⊥
true_false t f = cc

-- a key is the changed one, or is as before
pub same_or_key : {X : Type 0} (old new : BTreeMap Key X) (key : Key) (o : Option X) → Updates key_cmp old new key o → (k : Key) → (key ≡ k) ⊎ (get key_cmp new k ≡ get key_cmp old k)
same_or_key old new key o u k = go (is_at (key_cmp key) k) refl
  where
    go : (b : Bool) → is_at (key_cmp key) k ≡ b → (key ≡ k) ⊎ (get key_cmp new k ≡ get key_cmp old k)
    go true t = inl (tells_apart exact_keys key k t)
    go false t = inr (u.2 k t)

pub decide_key : (key k : Key) → (key ≡ k) ⊎ (key ≢ k)
decide_key key k = go (is_at (key_cmp key) k) refl
  where
    itself : is_at (key_cmp key) key ≡ true
    itself = ap is_eq (tied_itself keys_total key)

    go : (b : Bool) → is_at (key_cmp key) k ≡ b → (key ≡ k) ⊎ (key ≢ k)
    go true t = inl (tells_apart exact_keys key k t)
    go false t = inr (λ q. true_false (subst (λ x. is_at (key_cmp key) x ≡ true) q itself) t)

-- another key is as before
pub other_key : {X : Type 0} (old new : BTreeMap Key X) (key : Key) (o : Option X) → Updates key_cmp old new key o → (k : Key) → key ≢ k → get key_cmp new k ≡ get key_cmp old k
other_key old new key o u k n = elim (same_or_key old new key o u k) [ inl q ↦ absurd (n q) | inr q ↦ q ]

-- a key is the written one, or has the value that it had
pub same_or_value : {X : Type 0} (old new : List (Key × X)) (key : Key) (v : X) → Writes old new key v → (k : Key) → (key ≡ k) ⊎ (value_of new k ≡ value_of old k)
same_or_value old new key v w k = elim (decide_key key k) [ inl q ↦ inl q | inr n ↦ inr (w.others k n) ]

pub on_err : {T E : Type 0} {P : Type 0} (r : Result T E) → P → OnErr r P
on_err (Ok x) p = tt
on_err (Err e) p = p
