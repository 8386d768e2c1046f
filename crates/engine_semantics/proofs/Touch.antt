-- An edit that marks dirty what reaches a touched leaf leaves a consistent graph consistent.
use Rattle.std.proofs.Common.{◌≡◌, ◌⊎◌, inl, inr, ℕ, ◌+◌, ◌<◌, ◌≤◌, Bool, true, false, List, [], ◌∷◌, Option, Some, None, refl, sym, ◌∙◌, ap, subst, arith}
use Rattle.std.specs.List.{AllByRecursion}
use Rattle.engine_semantics.specs.Reply.{Reply}
use Rattle.engine_semantics.specs.Value.{Settles, leaf, run, closed, EachMember, In, first, after, IsMember}
use Rattle.engine_semantics.specs.Graph.{Record, Differs, IsDependency, IsConsistent, Lawful, Reaches, leaf as touched_leaf, through, MarksDirty}
use Rattle.engine_semantics.proofs.SameValues.{kept}

pub not_true : (b : Bool) → (b ≡ true → ⊥) → b ≡ false
not_true true h = absurd (h refl)
not_true false h = refl

module _ {K : Type 0} (P : K → Type 0) where
  all_in : (xs : List K) → ((j : K) → In j xs → P j) → AllByRecursion P xs
  all_in [] f = tt
  all_in (x ∷ xs) f = (f x first, all_in xs (λ j i. f j (after i)))

  pub each_member : (gs : List (List K)) → ((j : K) → IsMember j gs → P j) → EachMember P gs
  each_member [] f = tt
  each_member (g ∷ gs) f = (all_in g (λ j i. f j (g, first, i)), each_member gs (λ j m. f j (m.0, after m.1, m.2)))

-- where the other one was, and what it changed
module _ {K V : Type 0} (records marked : K → Option (Record K V)) (touched : K → Type 0) (marks : MarksDirty records marked touched) where
  origin : (k : K) (m : Record K V) → marked k ≡ Some m → (r : Record K V) × (records k ≡ Some r) × (d : Bool) × (m ≡ record r { dirty = d })
  origin k m e = go (records k) refl
    where
      go : (o : Option (Record K V)) → records k ≡ o → (r : Record K V) × (records k ≡ Some r) × (d : Bool) × (m ≡ record r { dirty = d })
      go None h = let n = marks.none_new k h in cc
      go (Some r) h = let p = marks.kept k r h in let q : Some m ≡ Some (record r { dirty = p.0 }) = sym e ∙ p.1 in (r, h, p.0, (cc))

module _ {K V : Type 0} (next : K → List V → Reply K V) (cycle : List K → V) (reads : ℕ → K → Option V)
    (records marked : K → Option (Record K V)) (touched : ℕ → K → Type 0) (now : ℕ)
    (law : Lawful next cycle reads records touched now)
    (marks : MarksDirty records marked (touched (now + 1)))
    (edit : (k : K) → (touched (now + 1) k → ⊥) → reads (now + 1) k ≡ reads now k)
    (leaf_stays : (u w : ℕ) (k : K) (v : V) → reads u k ≡ Some v → (x : V) × (reads w k ≡ Some x)) where
  abbrev Reached : K → Type 0
  Reached = Reaches records (touched (now + 1))

  -- a record that is not dirty and reaches no touched leaf
  abbrev Clean : K → Type 0
  Clean k = (r : Record K V) × (records k ≡ Some r) × (r.dirty ≡ false) × (Reached k → ⊥)

  clean_member : (k : K) (c : Clean k) (j : K) → IsMember j c.0.groups → Clean j
  clean_member k c j m =
      let d = (law.each k c.0 c.1).depends j m in
      let dirty = c.2 in
      (d.of_j, d.recorded, not_true d.of_j.dirty (λ e. let t = d.dirty_above e in cc), λ reached. c.3 (through c.1 m reached))

  -- it keeps its value and its groups
  pub clean_kept : (k : K) (c : Clean k) → Settles next (reads (now + 1)) cycle k c.0.groups c.0.value
  clean_kept = kept next cycle (reads now) (reads (now + 1)) Clean
      (λ k c. edit k (λ t. c.3 (touched_leaf t)))
      (λ k c. c.0.groups) (λ k c. c.0.value)
      (λ k c. (law.each k c.0 c.1).clean c.2)
      (λ k c. each_member Clean c.0.groups (clean_member k c))

  differs_later : {j : K} {u : ℕ} → Differs next cycle reads j u now → Differs next cycle reads j u (now + 1)
  differs_later d = record { a = d.a; b = d.b; a_within = (d.a_within.0, omega arith); b_within = (d.b_within.0, omega arith); v = d.v; w = d.w; at_a = d.at_a; at_b = d.at_b; apart = d.apart }

  -- what is marked of k, whose record was r
  module _ (k : K) (r : Record K V) (dirty : Bool) (was : records k ≡ Some r) (is : marked k ≡ Some (record r { dirty = dirty })) where
    l : IsConsistent next cycle reads records now k r
    l = law.each k r was

    still_dirty : r.dirty ≡ true → dirty ≡ true
    still_dirty h = marks.marks k r (record r { dirty = dirty }) was is (inl h)

    marked_clean : dirty ≡ false → Settles next (reads (now + 1)) cycle k r.groups r.value
    marked_clean h = clean_kept k (r, was, not_true r.dirty (λ e. let t = still_dirty e in cc), λ reached. let t : dirty ≡ true = marks.marks k r (record r { dirty = dirty }) was is (inr reached) in cc)

    marked_depends : (j : K) → IsMember j r.groups → IsDependency next cycle reads marked (now + 1) r.settled_at dirty j
    marked_depends j m =
        let d = l.depends j m in
        let p = marks.kept j d.of_j d.recorded in
        record {
          of_j = record d.of_j { dirty = p.0 };
          recorded = p.1;
          dirty_above = λ e. elim (marks.only j d.of_j (record d.of_j { dirty = p.0 }) d.recorded p.1 e) [
            | inl h ↦ still_dirty (d.dirty_above h)
            | inr h ↦ marks.marks k r (record r { dirty = dirty }) was is (inr (through was m h))
          ];
          unchanged = d.unchanged;
          changed = λ h. (differs_later (d.changed h).0, still_dirty (d.changed h).1);
        }

    marked_lawful : IsConsistent next cycle reads marked (now + 1) k (record r { dirty = dirty })
    marked_lawful = let p = l.past in record { past = (p.0, omega arith); late = λ d. omega arith; settled = l.settled; clean = marked_clean; depends = marked_depends }

    -- no other record than a leaf's reaches a touched leaf directly
    leaf_reaches : (v : V) → reads (now + 1) k ≡ Some v → Reached k → touched (now + 1) k
    leaf_reaches v e reached = go reached refl
      where
        no_groups : {gs : List (List K)} {x : V} → Settles next (reads r.settled_at) cycle k gs x → gs ≡ []
        no_groups (leaf h) = refl
        no_groups (run h t) = let y = leaf_stays (now + 1) r.settled_at k v e in let z = y.1 in cc
        no_groups (closed h t c) = let y = leaf_stays (now + 1) r.settled_at k v e in let z = y.1 in cc

        no_member : {j : K} {gs : List (List K)} → gs ≡ [] → IsMember j gs → ⊥
        no_member {gs = []} h m = no_in m.1
          where
            no_in : {g : List K} → In g [] → ⊥
            no_in i = elim i [ ]
        no_member {gs = g ∷ gs} h m = cc

        go : {i : K} → Reached i → i ≡ k → touched (now + 1) k
        go (touched_leaf t) h = subst (touched (now + 1)) h t
        go (through {k = i} {r = s} q m x) h =
            let p : records k ≡ Some s = ap records (sym h) ∙ q in
            let o : r ≡ s = cc in
            absurd (no_member (ap (λ (y : Record K V). y.groups) (sym o) ∙ no_groups l.settled) m)

    marked_leaf_dirty : (v : V) → reads (now + 1) k ≡ Some v → dirty ≡ true → (u : ℕ) × (r.settled_at < u) × (u ≤ now + 1) × touched u k
    marked_leaf_dirty v e h = elim (marks.only k r (record r { dirty = dirty }) was is h) [
      | inl t ↦ let y = leaf_stays (now + 1) now k v e in let o = law.leaf_dirty k r y.0 was y.1 t in (o.0, o.1, omega arith, o.3)
      | inr t ↦ let p = l.past in (now + 1, omega arith, omega arith, leaf_reaches v e t)
    ]

    marked_leaf_clean : (v : V) → reads (now + 1) k ≡ Some v → (u : ℕ) → r.settled_at < u → u ≤ now + 1 → touched u k → dirty ≡ true
    marked_leaf_clean v e u low high t = go (split u high)
      where
        split : (n : ℕ) → n ≤ now + 1 → (n ≤ now) ⊎ (n ≡ now + 1)
        split n h = grind arith

        go : (u ≤ now) ⊎ (u ≡ now + 1) → dirty ≡ true
        go (inl h) = let y = leaf_stays (now + 1) now k v e in still_dirty (law.leaf_clean k r y.0 was y.1 u low h t)
        go (inr h) = marks.marks k r (record r { dirty = dirty }) was is (inr (touched_leaf (subst (λ n. touched n k) h t)))

  -- the graph is consistent for the files after the edit
  pub touch_lawful : Lawful next cycle reads marked touched (now + 1)
  touch_lawful = record {
    each = λ k m e. let o = origin records marked (touched (now + 1)) marks k m e in
        subst (λ x. IsConsistent next cycle reads marked (now + 1) k x) (sym o.3) (marked_lawful k o.0 o.2 o.1 (e ∙ ap Some o.3));
    leaf_dirty = λ k m v e a h. let o = origin records marked (touched (now + 1)) marks k m e in
        let x = marked_leaf_dirty k o.0 o.2 o.1 (e ∙ ap Some o.3) v a (sym (ap (λ (y : Record K V). y.dirty) o.3) ∙ h) in
        (x.0, subst (λ (n : ℕ). n < x.0) (sym (ap (λ (y : Record K V). y.settled_at) o.3)) x.1, x.2, x.3);
    leaf_clean = λ k m v e a u low high t. let o = origin records marked (touched (now + 1)) marks k m e in
        ap (λ (y : Record K V). y.dirty) o.3 ∙ marked_leaf_clean k o.0 o.2 o.1 (e ∙ ap Some o.3) v a u (subst (λ (n : ℕ). n < u) (ap (λ (y : Record K V). y.settled_at) o.3) low) high t;
  }
