-- The first places of the keys of a group, from one key to the next.
use Rattle.std.proofs.Common.{◌≡◌, ℕ, zero, suc, ◌+◌, Bool, true, false, cond, List, [], ◌∷◌, drop, Option, Some, None, refl, sym, ◌∙◌, ap, subst, arith}
use Rattle.std.specs.Option.{is_some}
use Rattle.std.specs.List.{slice_get}
use Rattle.std.specs.BTreeMap.{BTreeMap, get, Updates, is_at}
use Rattle.std.specs.Ordering.{is_eq}
use Rattle.std.proofs.lemmas.Cmp.{tied_itself}
use Rattle.std.proofs.lemmas.Map.Views.{tells_apart}
use Rattle.keys.specs.Keys.{key_cmp, key_eq}
use Rattle.keys.specs.declared.key.Key.{Key}
use Rattle.keys.specs.declared.value.Value.{Value}
use Rattle.keys.proofs.KeyLaws.{keys_total, exact_keys, exact_key_eq}
use Rattle.functions.specs.Once.{answer_at}

-- the answer at a place, or what is after
abbrev pub answer_or : Option ℕ → List Value → Option Value → Option Value
answer_or None answers later = later
answer_or (Some place) answers later = slice_get answers place

-- the places of the first i keys, and the rest of the group
abbrev pub ArePlacesUpTo : ℕ → BTreeMap Key ℕ → List Key → Type 0
ArePlacesUpTo i places group = (k : Key) (answers : List Value) → answer_or (get key_cmp places k) answers (answer_at k (drop i group) (drop i answers)) ≡ answer_at k group answers

none_left : (k : Key) (group : List Key) → answer_at k group [] ≡ None
none_left k [] = refl
none_left k (j ∷ group) = refl

-- one key of the group: its answer, or that of the keys after it
one_key_suc : (i : ℕ) (answers : List Value) (k j : Key) (behind : List Key) → answer_at k (j ∷ behind) (drop i answers) ≡ cond (key_eq k j) (slice_get answers i) (answer_at k behind (drop (suc i) answers))
one_key_suc i [] k j behind = go (drop i []) (nothing i) (key_eq k j)
  where
    nothing : (n : ℕ) → ◌≡◌ {A = List Value} (drop n []) []
    nothing zero = refl
    nothing (suc n) = refl

    go : (here : List Value) → here ≡ [] → (b : Bool) → answer_at k (j ∷ behind) here ≡ cond b None (answer_at k behind [])
    go here h true = ap (answer_at k (j ∷ behind)) h
    go here h false = ap (answer_at k (j ∷ behind)) h ∙ sym (none_left k behind)
one_key_suc zero (a ∷ answers) k j behind = refl
one_key_suc (suc i) (a ∷ answers) k j behind = one_key_suc i answers k j behind

one_key : (i : ℕ) (answers : List Value) (k j : Key) (behind : List Key) → answer_at k (j ∷ behind) (drop i answers) ≡ cond (key_eq k j) (slice_get answers i) (answer_at k behind (drop (i + 1) answers))
one_key i answers k j behind =
    let next : suc i ≡ i + 1 = omega arith in
    subst (λ n. answer_at k (j ∷ behind) (drop i answers) ≡ cond (key_eq k j) (slice_get answers i) (answer_at k behind (drop n answers))) next (one_key_suc i answers k j behind)

same_key : (k j : Key) → key_eq k j ≡ true → k ≡ j
same_key k j e = (exact_key_eq k j).0 e

not_both : (b : Bool) → b ≡ true → b ≡ false → ⊥
not_both b t f = cc

module _ (i : ℕ) (places : BTreeMap Key ℕ) (group : List Key) (j : Key) (next : drop i group ≡ j ∷ drop (i + 1) group) (so_far : ArePlacesUpTo i places group) where
  -- what the key at i adds
  split : (k : Key) (answers : List Value) → answer_at k (drop i group) (drop i answers) ≡ cond (key_eq k j) (slice_get answers i) (answer_at k (drop (i + 1) group) (drop (i + 1) answers))
  split k answers = ap (λ g. answer_at k g (drop i answers)) next ∙ one_key i answers k j (drop (i + 1) group)

  -- another key
  later : (k : Key) (answers : List Value) → key_eq k j ≡ false → answer_at k (drop (i + 1) group) (drop (i + 1) answers) ≡ answer_at k (drop i group) (drop i answers)
  later k answers e = sym (split k answers ∙ ap (λ b. cond b (slice_get answers i) (answer_at k (drop (i + 1) group) (drop (i + 1) answers))) e)

  -- a key that has a place is before
  pub place_stays : is_some (get key_cmp places j) ≡ true → ArePlacesUpTo (i + 1) places group
  place_stays had k answers = go (get key_cmp places k) refl ∙ so_far k answers
    where
      go : (o : Option ℕ) → get key_cmp places k ≡ o → answer_or o answers (answer_at k (drop (i + 1) group) (drop (i + 1) answers)) ≡ answer_or (get key_cmp places k) answers (answer_at k (drop i group) (drop i answers))
      go (Some p) e = ap (λ o. answer_or o answers (answer_at k (drop i group) (drop i answers))) (sym e)
      go None e = other (key_eq k j) refl ∙ ap (λ o. answer_or o answers (answer_at k (drop i group) (drop i answers))) (sym e)
        where
          other : (b : Bool) → key_eq k j ≡ b → answer_at k (drop (i + 1) group) (drop (i + 1) answers) ≡ answer_at k (drop i group) (drop i answers)
          other true t = absurd (not_both (is_some (get key_cmp places j)) had (ap is_some (ap (get key_cmp places) (sym (same_key k j t)) ∙ e)))
          other false f = later k answers f

  -- a key without a place gets this one
  pub place_set : (more : BTreeMap Key ℕ) → is_some (get key_cmp places j) ≡ false → Updates key_cmp places more j (Some i) → ArePlacesUpTo (i + 1) more group
  place_set more new u k answers = ap (λ o. answer_or o answers (answer_at k (drop (i + 1) group) (drop (i + 1) answers))) (u.0 k) ∙ go (is_at (key_cmp j) k) refl ∙ so_far k answers
    where
      rest : Option Value
      rest = answer_at k (drop i group) (drop i answers)

      -- no place was there
      none : (o : Option ℕ) → is_some o ≡ false → o ≡ None
      none None e = refl
      none (Some p) e = cc

      go : (b : Bool) → is_at (key_cmp j) k ≡ b → answer_or (cond b (Some i) (get key_cmp places k)) answers (answer_at k (drop (i + 1) group) (drop (i + 1) answers)) ≡ answer_or (get key_cmp places k) answers rest
      go true t =
          let same : j ≡ k = tells_apart exact_keys j k t in
          let free : get key_cmp places k ≡ None = ap (get key_cmp places) (sym same) ∙ none (get key_cmp places j) new in
          sym (split k answers ∙ ap (λ b. cond b (slice_get answers i) (answer_at k (drop (i + 1) group) (drop (i + 1) answers))) ((exact_key_eq k j).1 (sym same)))
          ∙ ap (λ o. answer_or o answers rest) (sym free)
      go false f = kept (get key_cmp places k) refl
        where
          apart : (b : Bool) → key_eq k j ≡ b → key_eq k j ≡ false
          apart true t = absurd (not_both (is_at (key_cmp j) k) (subst (λ y. is_at (key_cmp j) y ≡ true) (sym (same_key k j t)) (ap is_eq (tied_itself keys_total j))) f)
          apart false e = e

          kept : (o : Option ℕ) → get key_cmp places k ≡ o → answer_or o answers (answer_at k (drop (i + 1) group) (drop (i + 1) answers)) ≡ answer_or o answers rest
          kept (Some p) e = refl
          kept None e = later k answers (apart (key_eq k j) refl)
