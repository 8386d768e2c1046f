-- What the choices say of keys, given by the graph and the open nodes.
use Rattle.std.proofs.Common.{◌≡◌, ◌≢◌, ◌⊎◌, inl, inr, ℕ, ◌<◌, true, false, nat_lt, List, [], ◌∷◌, ◌++◌, Option, Some, refl, sym, ◌∙◌, ap, subst, arith}
use Rattle.engine_semantics.specs.Reply.{Reply}
use Rattle.engine_semantics.specs.Value.{HasValue, IsMember}
use Rattle.engine_semantics.specs.Graph.{Record}
use Rattle.engine_semantics.specs.Choices.{Choice, Changed, Unchanged, Settled, clean}
use Rattle.engine_semantics.proofs.Justification.{changed_test, unchanged_test}
use Rattle.keys.specs.Cycles.{cycle}
use Rattle.keys.specs.declared.key.Key.{Key}
use Rattle.keys.specs.declared.value.Value.{Value}
use Rattle.node.specs.Graphs.{GraphView, record_at, IsTouched}
use Rattle.node.specs.Writes.{change_of, settled_record}
use Rattle.node.proofs.Lists.{some_is}
use Rattle.node.proofs.Lawfulness.{is_change}
use Rattle.round_nodes.specs.Nodes.{Nodes, IsUnsettled, IsClean, IsStill}
use Rattle.round_nodes.specs.Invariants.{IsNext, Past, IsWantedBy, IsTrueOf, TellsChange}
use Rattle.round_nodes.specs.declared.run.Run.{Run}
use Rattle.round_nodes.proofs.Settlings.{now_is, clean_settles, same_since}
use Rattle.node.specs.Comparisons.{has_changed}

-- nothing is left of a whole list
pub no_rest : {X : Type 0} (xs rest : List X) → xs ≡ xs ++ rest → rest ≡ []
no_rest [] rest e = sym e
no_rest (x ∷ xs) rest e = let q : xs ≡ xs ++ rest = cc in no_rest xs rest q

-- the version at which a value changed: that of the record that was there, where it has the value, else the present one
abbrev IsChange : Option (Record Key Value) → Value → ℕ → ℕ → Type 0
IsChange o value version at = ((r : Record Key Value) × (o ≡ Some r) × (r.value ≡ value) × (at ≡ r.changed_at)) ⊎ ((at ≡ version) × ((r : Record Key Value) → o ≡ Some r → r.value ≢ value))

module _ (next : Key → List Value → Reply Key Value) (read : Key → Option Value) (laws : IsNext next) (past : Past read) (cs : List (Choice Key)) where
  module _ (graph : GraphView) (nodes : Nodes) (runs : List Run) (t : IsTrueOf next read past cs graph nodes runs) where
    -- an opened key that is settled in the graph is settled by the choices
    pub settled_by : (j : Key) → IsClean (record_at graph) j → IsWantedBy next read past cs j → Settled next cycle read (record_at past.entry) past.roots cs j
    settled_by j c w = elim (t.after.since j) [
      | inl e ↦ clean w (sym e ∙ c.1) c.2
      | inr s ↦ (t.settled j s.4 c).settled
    ]

    -- a member of a record that is checked: its record at the entry, and what its value did since
    abbrev Compared : Key → Record Key Value → Type 0
    Compared j w = (s : Record Key Value) × (record_at past.entry j ≡ Some s) × (((s.value ≡ w.value) × (w.changed_at ≡ s.changed_at)) ⊎ ((w.changed_at ≡ past.entry.version) × (s.value ≢ w.value)))

    compared : (k : Key) (r : Record Key Value) → record_at past.entry k ≡ Some r → (j : Key) → IsMember j r.groups → (w : Record Key Value) → record_at graph j ≡ Some w → w.dirty ≡ false → Compared j w
    compared k r e j m w f d = let o = (t.before.each k r e).depends j m in
        elim (t.after.since j) [
          | inl q ↦ let same : o.of_j ≡ w = some_is (sym o.recorded ∙ (sym q ∙ f)) in (w, sym q ∙ f, inl (refl, refl))
          | inr s ↦ (o.of_j, o.recorded, (t.settled j s.4 (w, f, d)).change w o.of_j f o.recorded)
        ]

    present_now : past.reads past.entry.version ≡ read
    present_now = now_is next read laws past

    its_value : (j : Key) (w : Record Key Value) → record_at graph j ≡ Some w → w.dirty ≡ false → HasValue next (past.reads past.entry.version) cycle j w.value
    its_value j w f d = subst (λ x. HasValue next x cycle j w.value) (sym present_now) (w.groups, clean_settles next read laws past graph t.after j w f d)

    -- the test of the changed version tells whether the value changed
    pub still_unchanged : (k : Key) (r : Record Key Value) → record_at past.entry k ≡ Some r → r.dirty ≡ true → (j : Key) → IsMember j r.groups → IsStill (record_at graph) r.settled_at j → Unchanged next cycle read (record_at past.entry) r.settled_at j
    still_unchanged k r e dirty j m s = let c = compared k r e j m s.0 s.1 s.2 in
        subst (λ x. Unchanged next cycle x (record_at past.entry) r.settled_at j) present_now
        (unchanged_test next cycle past.reads (λ u i. IsTouched (past.edits u) i) past.entry.version (record_at past.entry) t.before past.roots cs e dirty c.1 (its_value j s.0 s.1 s.2) c.2 s.3)

    pub changed_since : (k : Key) (r : Record Key Value) → record_at past.entry k ≡ Some r → r.dirty ≡ true → (j : Key) → IsMember j r.groups → IsClean (record_at graph) j → has_changed (record_at graph j) r.settled_at ≡ true
        → Changed next cycle read (record_at past.entry) r.settled_at j
    changed_since k r e dirty j m s h = let c = compared k r e j m s.0 s.1 s.2 in
        subst (λ x. Changed next cycle x (record_at past.entry) r.settled_at j) present_now
        (changed_test next cycle past.reads (λ u i. IsTouched (past.edits u) i) past.entry.version (record_at past.entry) t.before past.roots cs e dirty c.1 (its_value j s.0 s.1 s.2) c.2 (late (sym (ap (λ o. has_changed o r.settled_at) s.1) ∙ h)))
      where
        late : {a b : ℕ} → nat_lt a b ≡ true → a < b
        late e = grind (arith, e)

    -- what is stored for a key tells whether its value changed
    pub stored_change : (new : GraphView) (k : Key) (v : Value) (gs : List (List Key)) → IsUnsettled (record_at graph) k → record_at new k ≡ Some (settled_record (record_at graph k) v gs graph.version) → TellsChange next read past new k
    stored_change new k v gs was there r s e f = go (is_change (record_at graph k) v graph.version)
      where
        is : settled_record (record_at graph k) v gs graph.version ≡ r
        is = some_is (sym there ∙ e)

        had : record_at graph k ≡ Some s
        had = same_since next read laws past graph t.after k was ∙ f

        changed_is : r.changed_at ≡ change_of (record_at graph k) v graph.version
        changed_is = ap (λ (x : Record Key Value). x.changed_at) (sym is)

        value_is : v ≡ r.value
        value_is = ap (λ (x : Record Key Value). x.value) is

        go : IsChange (record_at graph k) v graph.version (change_of (record_at graph k) v graph.version) → ((s.value ≡ r.value) × (r.changed_at ≡ s.changed_at)) ⊎ ((r.changed_at ≡ past.entry.version) × (s.value ≢ r.value))
        go (inl x) = let same : x.0 ≡ s = some_is (sym x.1 ∙ had) in inl (ap (λ (y : Record Key Value). y.value) (sym same) ∙ x.2 ∙ value_is, changed_is ∙ x.3 ∙ ap (λ (y : Record Key Value). y.changed_at) same)
        go (inr x) = inr (changed_is ∙ x.0 ∙ t.after.version, λ q. x.1 s had (q ∙ sym value_is))
