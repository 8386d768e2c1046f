-- What a check finds in the next group, member by member.
use Rattle.std.proofs.Common.{◌≡◌, ◌≢◌, ◌⊎◌, inl, inr, ℕ, ◌+◌, ◌≤◌, zero, suc, ◌||◌, not, Bool, true, false, cond, List, [], ◌∷◌, ◌++◌, length, take, Option, Some, None, refl, sym, ◌∙◌, ap, subst, arith}
use Rattle.std.specs.Prelude.{filter, slice_get}
use Rattle.std.specs.List.{list_any}
use Rattle.std.specs.declared.alloc.Global.{Global}
use Rattle.std.specs.declared.vec.Vec.{Vec}
use Rattle.engine_semantics.specs.Graph.{Record}
use Rattle.engine_semantics.specs.Value.{In, first, after}
use Rattle.keys.specs.declared.key.Key.{Key}
use Rattle.keys.specs.declared.value.Value.{Value}
use Rattle.node.specs.Comparisons.{unsettled_members, has_changed, ComparesGroup, ComparesNext, Compares}
use Rattle.node.specs.Writes.{is_clean}
use Rattle.node.specs.declared.comparison.Comparison.{Comparison}
use Rattle.node.specs.declared.comparison.Comparison.TheVariants as compared
use Rattle.node.proofs.Lists.{some_is, none_some, true_false}
use Rattle.round_nodes.specs.Nodes.{Records, IsClean}
use Rattle.round_nodes.specs.Members.{IsMissing}

-- the group after the first ones of a record
abbrev pub IsNextGroup : Record Key Value → ℕ → List Key → Type 0
IsNextGroup r passed group = (rest : List (List Key)) × (r.groups ≡ take passed r.groups ++ group ∷ rest)

-- all members are settled, and one has changed since a version
abbrev pub HasChanged : Records → List Key → ℕ → Type 0
HasChanged records group since = ((j : Key) → In j group → IsClean records j) × ((j : Key) × In j group × (has_changed (records j) since ≡ true))

-- all members are settled, and none has changed since a version
abbrev pub HasNotChanged : Records → List Key → ℕ → Type 0
HasNotChanged records group since = ((j : Key) → In j group → IsClean records j) × ((j : Key) → In j group → has_changed (records j) since ≡ false)

clean_is : (o : Option (Record Key Value)) → is_clean o ≡ true → (s : Record Key Value) × (o ≡ Some s) × (s.dirty ≡ false)
clean_is None e = cc
clean_is (Some s) e = (s, refl, go s.dirty refl)
  where
    go : (b : Bool) → s.dirty ≡ b → s.dirty ≡ false
    go true d = absurd (true_false e (ap not d))
    go false d = d

module _ {X : Type 0} (p : X → Bool) where
  kept_in : (xs : List X) {x : X} → In x (filter p xs) → In x xs
  kept_in [] i = i
  kept_in (y ∷ xs) {x} i = go (λ k. kept_in xs k) (p y) refl
    where
      go : (In x (filter p xs) → In x xs) → (b : Bool) → p y ≡ b → In x (y ∷ xs)
      go rest true e = here (subst (λ c. In x (cond c (y ∷ filter p xs) (filter p xs))) e i) refl
        where
          here : {zs : List X} → In x zs → zs ≡ y ∷ filter p xs → In x (y ∷ xs)
          here (first {xs = us}) q = let r : x ≡ y = cc in subst (λ z. In z (y ∷ xs)) (sym r) first
          here (after {xs = us} h) q = let r : us ≡ filter p xs = cc in after (rest (subst (In x) r h))
      go rest false e = after (rest (subst (λ c. In x (cond c (y ∷ filter p xs) (filter p xs))) e i))

  is_kept : {x : X} {xs : List X} → In x xs → p x ≡ true → In x (filter p xs)
  is_kept {x} (first {xs = xs}) e = subst (λ c. In x (cond c (x ∷ filter p xs) (filter p xs))) (sym e) first
  is_kept {x} (after {y = y} {xs = xs} i) e = go (is_kept i e) (p y) refl
    where
      go : In x (filter p xs) → (b : Bool) → p y ≡ b → In x (filter p (y ∷ xs))
      go rest true q = subst (λ c. In x (cond c (y ∷ filter p xs) (filter p xs))) (sym q) (after rest)
      go rest false q = subst (λ c. In x (cond c (y ∷ filter p xs) (filter p xs))) (sym q) rest

  any_found : (xs : List X) → list_any p xs ≡ true → (x : X) × In x xs × (p x ≡ true)
  any_found [] e = cc
  any_found (y ∷ xs) e = go (λ h. any_found xs h) (p y) refl
    where
      go : (list_any p xs ≡ true → (x : X) × In x xs × (p x ≡ true)) → (b : Bool) → p y ≡ b → (x : X) × In x (y ∷ xs) × (p x ≡ true)
      go rest true q = (y, first, q)
      go rest false q = let f = rest (sym (ap (λ b. b || list_any p xs) q) ∙ e) in (f.0, after f.1, f.2)

  none_found : {x : X} {xs : List X} → In x xs → list_any p xs ≡ false → p x ≡ false
  none_found {x} (first {xs = xs}) e = go (p x) refl
    where
      go : (b : Bool) → p x ≡ b → p x ≡ false
      go true q = absurd (true_false (ap (λ b. b || list_any p xs) q) e)
      go false q = q
  none_found {x} (after {y = y} {xs = xs} i) e = none_found i (go (p y) refl)
    where
      go : (b : Bool) → p y ≡ b → list_any p xs ≡ false
      go true q = absurd (true_false (ap (λ b. b || list_any p xs) q) e)
      go false q = sym (ap (λ b. b || list_any p xs) q) ∙ e

split_get : {X : Type 0} (xs : List X) (i : ℕ) (x : X) → slice_get xs i ≡ Some x → (rest : List X) × (xs ≡ take i xs ++ x ∷ rest)
split_get [] i x e = absurd (none_some e)
split_get (y ∷ xs) zero x e = (xs, ap (λ z. z ∷ xs) (some_is e))
split_get (y ∷ xs) (suc i) x e = let s = split_get xs i x e in (s.0, ap (λ z. y ∷ z) s.1)

past_end : {X : Type 0} (xs : List X) (i : ℕ) → slice_get xs i ≡ None → length xs ≤ i
past_end [] i e = omega arith
past_end (y ∷ xs) zero e = absurd (none_some (sym e))
past_end (y ∷ xs) (suc i) e = let h = past_end xs i e in omega (arith, h)

module _ (records : Records) (r : Record Key Value) (at : ℕ) (found : Comparison) (c : Compares records (Some r) at found) where
  -- no group is left
  pub over_is : found ≡ compared.Unchanged → length r.groups ≤ at
  over_is e = go (slice_get r.groups at) refl
    where
      go : (o : Option (List Key)) → slice_get r.groups at ≡ o → length r.groups ≤ at
      go None q = past_end r.groups at q
      go (Some group) q = absurd (subst (λ f. ComparesGroup records group r.settled_at (at + 1) f) e (subst (λ o. ComparesNext records o r.settled_at (at + 1) found) q c))

  next_group : found ≢ compared.Unchanged → (group : List Key) × IsNextGroup r at group × ComparesGroup records group r.settled_at (at + 1) found
  next_group n = go (slice_get r.groups at) refl
    where
      go : (o : Option (List Key)) → slice_get r.groups at ≡ o → (group : List Key) × IsNextGroup r at group × ComparesGroup records group r.settled_at (at + 1) found
      go None q = absurd (n (subst (λ o. ComparesNext records o r.settled_at (at + 1) found) q c))
      go (Some group) q = (group, split_get r.groups at group q, subst (λ o. ComparesNext records o r.settled_at (at + 1) found) q c)

  all_clean : (group : List Key) → unsettled_members records group ≡ [] → (j : Key) → In j group → IsClean records j
  all_clean group e j i = go (is_clean (records j)) refl
    where
      go : (b : Bool) → is_clean (records j) ≡ b → IsClean records j
      go true q = clean_is (records j) q
      go false q = elim (subst (In j) e (is_kept (λ k. not (is_clean (records k))) i (ap not q))) [ ]

  -- members are not settled
  pub waits_is : (missing : Vec Key Global) → found ≡ compared.NeedsMembers missing → (group : List Key) × IsNextGroup r at group × IsMissing records group missing.items
  waits_is missing e =
      let g = next_group (λ o. no (sym e ∙ o)) in
      let w = subst (λ f. ComparesGroup records g.0 r.settled_at (at + 1) f) e g.2 in (
        g.0,
        g.1,
        record {
          among = λ j i. kept_in (λ k. not (is_clean (records k))) g.0 (subst (In j) w.0 i);
          rest = λ j i. by g.0 w.0 j i (is_clean (records j)) refl;
        },
      )
    where
      no : compared.NeedsMembers missing ≡ compared.Unchanged → ⊥
      no o = cc

      by : (group : List Key) → missing.items ≡ unsettled_members records group → (j : Key) → In j group → (b : Bool) → is_clean (records j) ≡ b → In j missing.items ⊎ IsClean records j
      by group w j i true q = inr (clean_is (records j) q)
      by group w j i false q = inl (subst (In j) (sym w) (is_kept (λ k. not (is_clean (records k))) i (ap not q)))

  -- a member has changed
  pub differs_is : found ≡ compared.Changed → (group : List Key) × IsNextGroup r at group × HasChanged records group r.settled_at
  differs_is e =
      let g = next_group (λ o. no (sym e ∙ o)) in
      let w = subst (λ f. ComparesGroup records g.0 r.settled_at (at + 1) f) e g.2 in
      (g.0, g.1, (all_clean g.0 w.0, any_found (λ j. has_changed (records j) r.settled_at) g.0 w.1))
    where
      no : compared.Changed ≡ compared.Unchanged → ⊥
      no o = cc

  -- none has
  pub passes_is : (next : ℕ) → found ≡ compared.NextGroup next → ((group : List Key) × IsNextGroup r at group × HasNotChanged records group r.settled_at) × (next ≡ at + 1)
  passes_is next e =
      let g = next_group (λ o. no (sym e ∙ o)) in
      let w = subst (λ f. ComparesGroup records g.0 r.settled_at (at + 1) f) e g.2 in
      ((g.0, g.1, (all_clean g.0 w.0, λ j i. none_found (λ k. has_changed (records k) r.settled_at) i w.1)), w.2)
    where
      no : compared.NextGroup next ≡ compared.Unchanged → ⊥
      no o = cc
