-- A graph stays consistent where keys are settled with their present values and groups; a dirty record none of whose
-- members changed since holds these already.
use Rattle.std.proofs.Common.{◌≡◌, ◌≢◌, ◌⊎◌, inl, inr, ℕ, ◌<◌, ◌≤◌, Bool, true, false, List, [], ◌∷◌, ◌++◌, Option, Some, refl, sym, ◌∙◌, ap, subst, arith}
use Rattle.engine_semantics.specs.Reply.{Reply}
use Rattle.engine_semantics.specs.Value.{AllDiffer, Grounded, Settles, HasValue, IsMember}
use Rattle.engine_semantics.specs.Graph.{Record, Differs, IsDependency, IsConsistent, Lawful, IsSettled}
use Rattle.engine_semantics.proofs.Touch.{each_member}
use Rattle.engine_semantics.proofs.Plain.{one_value}
use Rattle.engine_semantics.proofs.ChangePruning.{Same, pruned}

module _ {K V : Type 0} (next : K → List V → Reply K V) (cycle : List K → V)
    (turned : (x : K) (xs : List K) → AllDiffer (x ∷ xs) → cycle (x ∷ xs) ≡ cycle (xs ++ x ∷ []))
    (reads : ℕ → K → Option V) (records : K → Option (Record K V)) (touched : ℕ → K → Type 0) (now : ℕ)
    (law : Lawful next cycle reads records touched now) where
  module _ (later : K → Option (Record K V))
      (change : (j : K) → IsSettled next cycle (reads now) now records later j ⊎ (later j ≡ records j)) where
    -- a record that is not dirty holds the present value
    present : (j : K) (r : Record K V) → later j ≡ Some r → r.dirty ≡ false → Settles next (reads now) cycle j r.groups r.value × (r.changed_at ≤ now)
    present j r e d = go (change j)
      where
        go : IsSettled next cycle (reads now) now records later j ⊎ (later j ≡ records j) → Settles next (reads now) cycle j r.groups r.value × (r.changed_at ≤ now)
        go (inl n) =
            let q : Some (record { value = n.value; groups = n.groups; settled_at = now; changed_at = n.changed_at; dirty = false }) ≡ Some r = sym n.stored ∙ e in
            let m : record { value = n.value; groups = n.groups; settled_at = now; changed_at = n.changed_at; dirty = false } ≡ r = cc in
            let P : Record K V → Type 0 = λ y. Settles next (reads now) cycle j y.groups y.value × (y.changed_at ≤ now) in
            subst P m (
              n.holds,
              elim n.change [
                | inl c ↦ let l = law.each j c.0 c.1 in let p = l.past in let eq = c.3 in omega arith
                | inr c ↦ let eq = c.0 in omega arith
              ],
            )
        go (inr s) = let l = law.each j r (sym s ∙ e) in let p = l.past in (l.clean d, omega arith)

    module _ (k : K) (n : IsSettled next cycle (reads now) now records later k) where
      new_depends : (i : K) → IsMember i n.groups → IsDependency next cycle reads later now now false i
      new_depends i m =
          let s = n.members i m in
          let p = present i s.0 s.1 s.2 in
          record {
            of_j = s.0;
            recorded = s.1;
            dirty_above = λ e. let d = s.2 in cc;
            unchanged = λ h. (s.0.groups, p.0);
            changed = λ h. let q = p.1 in absurd (omega arith);
          }

      new_lawful : IsConsistent next cycle reads later now k (record { value = n.value; groups = n.groups; settled_at = now; changed_at = n.changed_at; dirty = false })
      new_lawful = record { past = ((present k _ n.stored refl).1, omega arith); late = λ d. (cc); settled = n.holds; clean = λ d. n.holds; depends = new_depends }

    -- what was recorded of a dependency, after the change
    depends_later : (u : ℕ) (dirty : Bool) (j : K) → u ≤ now → IsDependency next cycle reads records now u dirty j → IsDependency next cycle reads later now u dirty j
    depends_later u dirty j within d = go (change j)
      where
        r : Record K V
        r = d.of_j

        go : IsSettled next cycle (reads now) now records later j ⊎ (later j ≡ records j) → IsDependency next cycle reads later now u dirty j
        go (inr s) = record { of_j = d.of_j; recorded = s ∙ d.recorded; dirty_above = d.dirty_above; unchanged = d.unchanged; changed = d.changed }
        go (inl n) = record {
          of_j = record { value = n.value; groups = n.groups; settled_at = now; changed_at = n.changed_at; dirty = false };
          recorded = n.stored;
          dirty_above = λ e. (cc);
          unchanged = unchanged;
          changed = changed;
        }
          where
            same_record : (s : Record K V) → records j ≡ Some s → s ≡ d.of_j
            same_record s e = let q : Some s ≡ Some d.of_j = sym e ∙ d.recorded in cc

            unchanged : n.changed_at ≤ u → HasValue next (reads u) cycle j n.value
            unchanged h = elim n.change [
              | inl c ↦
                  let q = same_record c.0 c.1 in
                  let eq = c.3 in
                  let t : d.of_j.changed_at ≤ u = subst (λ (y : Record K V). y.changed_at ≤ u) q (subst (λ x. x ≤ u) eq h) in
                  subst (HasValue next (reads u) cycle j) (ap (λ (y : Record K V). y.value) (sym q) ∙ c.2) (d.unchanged t)
              | inr c ↦ let eq = c.0 in let t : now ≡ u = omega arith in subst (λ x. HasValue next (reads x) cycle j n.value) t (n.groups, n.holds)
            ]

            was_dirty : d.of_j.value ≢ n.value → d.of_j.dirty ≡ true
            was_dirty differ = by_cases d.of_j.dirty refl
              where
                by_cases : (b : Bool) → d.of_j.dirty ≡ b → d.of_j.dirty ≡ true
                by_cases true e = e
                by_cases false e = absurd (differ (one_value next (reads now) cycle turned ((law.each j d.of_j d.recorded).clean e) n.holds))

            changed : u < n.changed_at → Differs next cycle reads j u now × (dirty ≡ true)
            changed h = elim n.change [
              | inl c ↦ let q = same_record c.0 c.1 in d.changed (subst (λ (y : Record K V). u < y.changed_at) q (subst (λ x. u < x) c.3 h))
              | inr c ↦ (differs (c.1 d.of_j d.recorded) (split u d.of_j.changed_at), d.dirty_above (was_dirty (c.1 d.of_j d.recorded)))
            ]
              where
                split : (a b : ℕ) → (b ≤ a) ⊎ (a < b)
                split a b = grind arith

                differs : d.of_j.value ≢ n.value → (d.of_j.changed_at ≤ u) ⊎ (u < d.of_j.changed_at) → Differs next cycle reads j u now
                differs ne (inl t) = record { a = u; b = now; a_within = (omega arith, omega arith); b_within = (omega arith, omega arith); v = d.of_j.value; w = n.value; at_a = d.unchanged t; at_b = (n.groups, n.holds); apart = ne }
                differs ne (inr t) = (d.changed t).0

    pub settle_lawful : Lawful next cycle reads later touched now
    settle_lawful = record {
      each = λ k r e. elim (change k) [
        | inl n ↦ let q : record { value = n.value; groups = n.groups; settled_at = now; changed_at = n.changed_at; dirty = false } ≡ r = same (sym n.stored ∙ e) in subst (IsConsistent next cycle reads later now k) q (new_lawful k n)
        | inr s ↦ let l = law.each k r (sym s ∙ e) in let p = l.past in record { past = l.past; late = l.late; settled = l.settled; clean = l.clean; depends = λ j m. depends_later r.settled_at r.dirty j p.1 (l.depends j m) }
      ];
      leaf_dirty = λ k r v e a h. elim (change k) [
        | inl n ↦ let q : record { value = n.value; groups = n.groups; settled_at = now; changed_at = n.changed_at; dirty = false } ≡ r = same (sym n.stored ∙ e) in let f : false ≡ r.dirty = ap (λ (y : Record K V). y.dirty) q in absurd (apart f h)
        | inr s ↦ law.leaf_dirty k r v (sym s ∙ e) a h
      ];
      leaf_clean = λ k r v e a u low high t. elim (change k) [
        | inl n ↦ let q : record { value = n.value; groups = n.groups; settled_at = now; changed_at = n.changed_at; dirty = false } ≡ r = same (sym n.stored ∙ e) in let f : now ≡ r.settled_at = ap (λ (y : Record K V). y.settled_at) q in absurd (omega arith)
        | inr s ↦ law.leaf_clean k r v (sym s ∙ e) a u low high t
      ];
    }
      where
        same : {x y : Record K V} → Some x ≡ Some y → x ≡ y
        same h = cc

        apart : {b : Bool} → false ≡ b → b ≡ true → ⊥
        apart f h = cc

  -- change pruning, over the graph: a dirty record none of whose members is dirty or changed since it was settled holds
  -- the present value and groups
  module _ (plain : (u : ℕ) (k : K) (v : V) (xs : List K) → Grounded next (reads u) k v → v ≢ cycle xs) where
    pub confirm_holds : (k : K) (r : Record K V) → records k ≡ Some r → reads now k ≡ reads r.settled_at k
        → ((j : K) → IsMember j r.groups → (s : Record K V) → records j ≡ Some s → (s.dirty ≡ false) × (s.changed_at ≤ r.settled_at))
        → Settles next (reads now) cycle k r.groups r.value
    confirm_holds k r e reads_same ready =
        let l = law.each k r e in
        pruned next cycle turned (reads r.settled_at) (reads now) (plain r.settled_at) (plain now) reads_same l.settled
        (each_member (Same next cycle turned (reads r.settled_at) (reads now) (plain r.settled_at) (plain now)) r.groups (λ j m.
        let d = l.depends j m in
        let q = ready j m d.of_j d.recorded in
        (d.of_j.value, d.unchanged q.1, (d.of_j.groups, (law.each j d.of_j d.recorded).clean q.0))))
