-- The keys of a list that were seen.
use Rattle.std.proofs.Common.{◌≡◌, ℕ, ◌+◌, Bool, true, false, cond, ◌||◌, List, [], ◌∷◌, ◌++◌, drop, refl, sym, ◌∙◌, ap, subst, append_assoc}
use Rattle.std.specs.BTreeMap.{is_at}
use Rattle.std.specs.BTreeSet.{BTreeSet, contains, Updates}
use Rattle.std.specs.Ordering.{is_eq}
use Rattle.std.proofs.lemmas.Cmp.{tied_itself}
use Rattle.std.proofs.lemmas.Map.Views.{tells_apart}
use Rattle.keys.specs.Keys.{key_cmp, key_eq}
use Rattle.keys.specs.declared.key.Key.{Key}
use Rattle.keys.proofs.KeyLaws.{keys_total, exact_keys, exact_key_eq}
use Rattle.functions.specs.Once.{has_key, once_behind}

-- the set has these keys and no others
abbrev pub HoldsKeys : BTreeSet Key → List Key → Type 0
HoldsKeys seen done = (k : Key) → contains key_cmp seen k ≡ has_key k done

both_ways : (b : Bool) → b ≡ true → b ≡ false → ⊥
both_ways b t f = cc

-- one more key at the end is the key, or makes no difference
has_end : (k j : Key) (done : List Key) → has_key k (done ++ j ∷ []) ≡ (has_key k done || key_eq k j)
has_end k j [] = go (key_eq k j)
  where
    go : (b : Bool) → b || false ≡ b
    go true = refl
    go false = refl
has_end k j (i ∷ done) = ap (λ b. key_eq k i || b) (has_end k j done) ∙ join (key_eq k i)
  where
    join : (b : Bool) → (b || (has_key k done || key_eq k j)) ≡ ((b || has_key k done) || key_eq k j)
    join true = refl
    join false = refl

-- where the sets agree, one test is the other
same_test : (key k : Key) → is_at (key_cmp key) k ≡ key_eq k key
same_test key k = go (is_at (key_cmp key) k) (key_eq k key) refl refl
  where
    go : (a b : Bool) → is_at (key_cmp key) k ≡ a → key_eq k key ≡ b → a ≡ b
    go true true t e = refl
    go false false t e = refl
    go true false t e = absurd (both_ways (key_eq k key) ((exact_key_eq k key).1 (sym (tells_apart exact_keys key k t))) e)
    go false true t e = absurd (both_ways (is_at (key_cmp key) k) (subst (λ y. is_at (key_cmp key) y ≡ true) (sym ((exact_key_eq k key).0 e)) (ap is_eq (tied_itself keys_total key))) t)

pub holds_more : (old new : BTreeSet Key) (key : Key) (done : List Key) → Updates key_cmp old new key true → HoldsKeys old done → HoldsKeys new (done ++ key ∷ [])
holds_more old new key done u h k = u.0 k ∙ go (is_at (key_cmp key) k) refl
  where
    swap : (a b : Bool) → cond b true a ≡ (a || b)
    swap true true = refl
    swap true false = refl
    swap false true = refl
    swap false false = refl

    go : (b : Bool) → is_at (key_cmp key) k ≡ b → cond (is_at (key_cmp key) k) true (contains key_cmp old k) ≡ has_key k (done ++ key ∷ [])
    go b e = swap (contains key_cmp old k) (is_at (key_cmp key) k) ∙ ap (λ x. x || is_at (key_cmp key) k) (h k) ∙ ap (λ y. has_key k done || y) (same_test key k) ∙ sym (has_end k key done)

module _ (all keys : List Key) (n : ℕ) (k : Key) (e : drop n keys ≡ k ∷ drop (n + 1) keys) (total : List Key) (so_far : all ++ once_behind all (drop n keys) ≡ total) where
  step : all ++ once_behind all (k ∷ drop (n + 1) keys) ≡ total
  step = ap (λ ks. all ++ once_behind all ks) (sym e) ∙ so_far

  pub once_new : has_key k all ≡ false → (all ++ k ∷ []) ++ once_behind (all ++ k ∷ []) (drop (n + 1) keys) ≡ total
  once_new h = append_assoc all (k ∷ []) (once_behind (all ++ k ∷ []) (drop (n + 1) keys))
      ∙ sym (ap (λ b. all ++ cond b (once_behind all (drop (n + 1) keys)) (k ∷ once_behind (all ++ k ∷ []) (drop (n + 1) keys))) h) ∙ step

-- one more key at its first place
pub once_step : (all new keys : List Key) (n : ℕ) (k shared : Key) → drop n keys ≡ k ∷ drop (n + 1) keys → new ≡ all ++ shared ∷ [] → shared ≡ k → (total : List Key) → all ++ once_behind all (drop n keys) ≡ total → has_key k all ≡ false → new ++ once_behind new (drop (n + 1) keys) ≡ total
once_step all new keys n k shared e is same total so_far h =
    subst (λ (xs : List Key). xs ++ once_behind xs (drop (n + 1) keys) ≡ total) (sym (is ∙ ap (λ x. all ++ x ∷ []) same)) (once_new all keys n k e total so_far h)

pub holds_step : (old added : BTreeSet Key) (all new : List Key) (k put shared : Key) → Updates key_cmp old added put true → put ≡ k → new ≡ all ++ shared ∷ [] → shared ≡ k → HoldsKeys old all → HoldsKeys added new
holds_step old added all new k put shared u p is same h =
    subst (HoldsKeys added) (sym (is ∙ ap (λ x. all ++ x ∷ []) same)) (holds_more old added k all (subst (λ x. Updates key_cmp old added x true) p u) h)
