-- Keys that come in and go out.
use Rattle.std.proofs.Common.{◌≡◌, ◌⊎◌, inl, inr, ℕ, suc, ◌+◌, ◌≤◌, Bool, true, false, cond, not, ◌||◌, List, [], ◌∷◌, ◌++◌, length, refl, sym, ◌∙◌, ap, subst, arith}
use Rattle.std.specs.List.{fold, list_any}
use Rattle.std.proofs.lemmas.List.Sums.{fold-append}
use Rattle.engine_semantics.specs.Value.{In, first, after}
use Rattle.keys.specs.Keys.{key_eq}
use Rattle.keys.specs.declared.key.Key.{Key}
use Rattle.keys.proofs.KeyLaws.{exact_key_eq, own_key}
use Rattle.node.specs.Edges.{IsAdded, IsRemoved}
use Rattle.node.proofs.Lists.{true_false}
use Rattle.round.specs.JobsOut.{keys_without, after_change, keys_after}

-- how often a key is there
abbrev times : Key → List Key → ℕ
times k [] = 0
times k (j ∷ keys) = cond (key_eq k j) (suc (times k keys)) (times k keys)

others_length : (k : Key) (keys : List Key) → length (keys_without k keys) + times k keys ≡ length keys
others_length k [] = refl
others_length k (j ∷ keys) = go (key_eq k j) (others_length k keys)
  where
    go : (b : Bool) → length (keys_without k keys) + times k keys ≡ length keys
        → length (cond (not b) (j ∷ keys_without k keys) (keys_without k keys)) + cond b (suc (times k keys)) (times k keys) ≡ suc (length keys)
    go true h = omega (arith, h)
    go false h = omega (arith, h)

-- the others are there no oftener than before
fewer_times : (j k : Key) (keys : List Key) → times j (keys_without k keys) ≤ times j keys
fewer_times j k [] = omega arith
fewer_times j k (i ∷ keys) = go (key_eq k i) (key_eq j i) refl (fewer_times j k keys)
  where
    go : (b d : Bool) → key_eq j i ≡ d → times j (keys_without k keys) ≤ times j keys → times j (cond (not b) (i ∷ keys_without k keys) (keys_without k keys)) ≤ cond d (suc (times j keys)) (times j keys)
    go true true e h = omega (arith, h)
    go true false e h = h
    go false true e h = let t : times j (i ∷ keys_without k keys) ≡ suc (times j (keys_without k keys)) = ap (λ b. cond b (suc (times j (keys_without k keys))) (times j (keys_without k keys))) e in omega (arith, h, t)
    go false false e h = let t : times j (i ∷ keys_without k keys) ≡ times j (keys_without k keys) = ap (λ b. cond b (suc (times j (keys_without k keys))) (times j (keys_without k keys))) e in omega (arith, h, t)

none_times : (k : Key) (keys : List Key) → list_any (key_eq k) keys ≡ false → times k keys ≡ 0
none_times k [] e = refl
none_times k (j ∷ keys) e = go (key_eq k j) (none_times k keys) e
  where
    go : (b : Bool) → (list_any (key_eq k) keys ≡ false → times k keys ≡ 0) → (b || list_any (key_eq k) keys) ≡ false → cond b (suc (times k keys)) (times k keys) ≡ 0
    go true h p = absurd (true_false refl p)
    go false h p = h p

-- no key is there twice, whatever changes there were
once_changed : (keys : List Key) (change : Key × Bool) → ((j : Key) → times j keys ≤ 1) → (j : Key) → times j (after_change keys change) ≤ 1
once_changed keys change once j = by change.1 (list_any (key_eq change.0) keys) refl
  where
    put : list_any (key_eq change.0) keys ≡ false → (b : Bool) → key_eq j change.0 ≡ b → cond b (suc (times j keys)) (times j keys) ≤ 1
    put e true q = let n = none_times change.0 keys e in let s = ap (λ (i : Key). times i keys) ((exact_key_eq j change.0).0 q) in omega (arith, n, s)
    put e false q = once j

    by : (came there : Bool) → list_any (key_eq change.0) keys ≡ there → times j (cond came (cond there keys (change.0 ∷ keys)) (keys_without change.0 keys)) ≤ 1
    by true true e = once j
    by true false e = put e (key_eq j change.0) refl
    by false there e = let f = fewer_times j change.0 keys in let o = once j in omega (arith, f, o)

once_each : (keys : List Key) (changes : List (Key × Bool)) → ((j : Key) → times j keys ≤ 1) → (j : Key) → times j (fold after_change keys changes) ≤ 1
once_each keys [] once = once
once_each keys (c ∷ changes) once = once_each (after_change keys c) changes (once_changed keys c once)

at_least_once : (k : Key) (keys : List Key) → In k keys → 1 ≤ times k keys
at_least_once k [] i = elim i [ ]
at_least_once k (j ∷ keys) i = go i refl (at_least_once k keys)
  where
    go : {x : Key} {xs : List Key} → In x xs → xs ≡ j ∷ keys → (In x keys → 1 ≤ times x keys) → 1 ≤ times x (j ∷ keys)
    go {x = x} (first {xs = ys}) q h =
        let same : x ≡ j = cc in
        let t : times x (j ∷ keys) ≡ suc (times x keys) = ap (λ b. cond b (suc (times x keys)) (times x keys)) ((exact_key_eq x j).1 same) in omega (arith, t)
    go {x = x} (after {xs = ys} i) q h = let same : ys ≡ keys = cc in more (key_eq x j) (h (subst (In x) same i))
      where
        more : (b : Bool) → 1 ≤ times x keys → 1 ≤ cond b (suc (times x keys)) (times x keys)
        more true l = omega (arith, l)
        more false l = l

-- one key less
pub one_less : (changes : List (Key × Bool)) (k : Key) → In k (keys_after changes) → length (keys_without k (keys_after changes)) + 1 ≡ length (keys_after changes)
one_less changes k i =
    let l = others_length k (keys_after changes) in
    let a = at_least_once k (keys_after changes) i in
    let o = once_each [] changes (λ j. omega arith) k in omega (arith, l, a, o)

any_in : (k : Key) (keys : List Key) → list_any (key_eq k) keys ≡ true → In k keys
any_in k [] e = absurd (true_false e refl)
any_in k (j ∷ keys) e = go (key_eq k j) refl e (any_in k keys)
  where
    go : (b : Bool) → key_eq k j ≡ b → (b || list_any (key_eq k) keys) ≡ true → (list_any (key_eq k) keys ≡ true → In k keys) → In k (j ∷ keys)
    go true q p h = subst (λ (i : Key). In k (i ∷ keys)) ((exact_key_eq k j).0 q) first
    go false q p h = after (h p)

none_any : (k : Key) (keys : List Key) → (In k keys → ⊥) → list_any (key_eq k) keys ≡ false
none_any k keys absent = go (list_any (key_eq k) keys) refl
  where
    go : (b : Bool) → list_any (key_eq k) keys ≡ b → b ≡ false
    go true e = absurd (absent (any_in k keys e))
    go false e = refl

-- after one change more
pub came_in : (changes : List (Key × Bool)) (k : Key) → (In k (keys_after changes) → ⊥) → keys_after (changes ++ (k, true) ∷ []) ≡ k ∷ keys_after changes
came_in changes k absent = fold-append after_change [] changes ((k, true) ∷ []) ∙ ap (λ b. cond b (keys_after changes) (k ∷ keys_after changes)) (none_any k (keys_after changes) absent)

pub went_out : (changes : List (Key × Bool)) (k : Key) → keys_after (changes ++ (k, false) ∷ []) ≡ keys_without k (keys_after changes)
went_out changes k = fold-append after_change [] changes ((k, false) ∷ [])

-- a key that came in and went out again
pub same_without : (k : Key) (keys : List Key) → (In k keys → ⊥) → keys_without k keys ≡ keys
same_without k [] absent = refl
same_without k (j ∷ keys) absent = go (key_eq k j) refl (same_without k keys (λ i. absent (after i)))
  where
    go : (b : Bool) → key_eq k j ≡ b → keys_without k keys ≡ keys → cond (not b) (j ∷ keys_without k keys) (keys_without k keys) ≡ j ∷ keys
    go true e h = absurd (absent (subst (λ (i : Key). In k (i ∷ keys)) ((exact_key_eq k j).0 e) first))
    go false e h = ap (λ xs. j ∷ xs) h

back_out : (k : Key) (keys : List Key) → (In k keys → ⊥) → keys_without k (k ∷ keys) ≡ keys
back_out k keys absent = ap (λ b. cond (not b) (k ∷ keys_without k keys) (keys_without k keys)) (own_key k) ∙ same_without k keys absent

pub again : (old middle new : List Key) (k : Key) → (In k old → ⊥) → middle ≡ k ∷ old → new ≡ keys_without k middle → new ≡ old
again old middle new k absent came went = went ∙ ap (keys_without k) came ∙ back_out k old absent

is_added : (keys : List Key) (k : Key) → IsAdded keys (k ∷ keys) k
is_added keys k = record { from = λ j i. go i refl; keeps = λ j i. after i; has = first }
  where
    go : {j : Key} {xs : List Key} → In j xs → xs ≡ k ∷ keys → In j keys ⊎ (k ≡ j)
    go {j = j} (first {xs = ys}) q = let same : k ≡ j = cc in inr same
    go {j = j} (after {xs = ys} i) q = let same : ys ≡ keys = cc in inl (subst (In j) same i)

still_in : (k j : Key) (keys : List Key) → In j keys → In j (keys_without k keys) ⊎ (k ≡ j)
still_in k j [] i = elim i [ ]
still_in k j (x ∷ keys) i = go i refl (still_in k j keys)
  where
    here : (b : Bool) → key_eq k x ≡ b → In x (cond (not b) (x ∷ keys_without k keys) (keys_without k keys)) ⊎ (k ≡ x)
    here true e = inr ((exact_key_eq k x).0 e)
    here false e = inl first

    go : {y : Key} {xs : List Key} → In y xs → xs ≡ x ∷ keys → (In y keys → In y (keys_without k keys) ⊎ (k ≡ y)) → In y (keys_without k (x ∷ keys)) ⊎ (k ≡ y)
    go {y = y} (first {xs = ys}) q h = let same : x ≡ y = cc in subst (λ (z : Key). In z (keys_without k (x ∷ keys)) ⊎ (k ≡ z)) same (here (key_eq k x) refl)
    go {y = y} (after {xs = ys} i) q h = let same : ys ≡ keys = cc in elim (h (subst (In y) same i)) [
      | inl a ↦ inl (past (key_eq k x) a)
      | inr b ↦ inr b
    ]
      where
        past : (b : Bool) → In y (keys_without k keys) → In y (cond (not b) (x ∷ keys_without k keys) (keys_without k keys))
        past true a = a
        past false a = after a

was_in : (k j : Key) (keys : List Key) → In j (keys_without k keys) → In j keys × (k ≡ j → ⊥)
was_in k j [] i = elim i [ ]
was_in k j (x ∷ keys) i = go (key_eq k x) refl i (was_in k j keys)
  where
    head : {y : Key} {xs : List Key} → key_eq k x ≡ false → In y xs → xs ≡ x ∷ keys_without k keys → (In y (keys_without k keys) → In y keys × (k ≡ y → ⊥)) → In y (x ∷ keys) × (k ≡ y → ⊥)
    head {y = y} e (first {xs = ys}) q h = let same : x ≡ y = cc in (subst (λ (z : Key). In z (x ∷ keys)) same first, λ p. true_false ((exact_key_eq k x).1 (p ∙ sym same)) e)
    head {y = y} e (after {xs = ys} a) q h = let same : ys ≡ keys_without k keys = cc in let r = h (subst (In y) same a) in (after r.0, r.1)

    go : (b : Bool) → key_eq k x ≡ b → In j (cond (not b) (x ∷ keys_without k keys) (keys_without k keys)) → (In j (keys_without k keys) → In j keys × (k ≡ j → ⊥)) → In j (x ∷ keys) × (k ≡ j → ⊥)
    go true e a h = let r = h a in (after r.0, r.1)
    go false e a h = head e a refl h

is_removed : (keys : List Key) (k : Key) → IsRemoved keys (keys_without k keys) k
is_removed keys k = record { from = λ j i. (was_in k j keys i).0; keeps = λ j i. still_in k j keys i; gone = λ i. (was_in k k keys i).1 refl }

pub put_in : (old new : List Key) (k : Key) → new ≡ k ∷ old → IsAdded old new k
put_in old new k e = subst (λ (keys : List Key). IsAdded old keys k) (sym e) (is_added old k)

pub taken_out : (old new : List Key) (key k : Key) → key ≡ k → new ≡ keys_without key old → IsRemoved old new k
taken_out old new key k same e = subst (λ (keys : List Key). IsRemoved old keys k) (sym (e ∙ ap (λ (j : Key). keys_without j old) same)) (is_removed old k)
