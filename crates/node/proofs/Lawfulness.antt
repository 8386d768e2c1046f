-- What the graph's calls do keeps a consistent graph consistent.
use Rattle.std.proofs.Common.{◌≡◌, ◌≢◌, ◌⊎◌, inl, inr, ℕ, ◌+◌, Bool, true, false, cond, List, Option, Some, None, refl, sym, ◌∙◌, ap, subst}
use Rattle.engine_semantics.specs.Reply.{Reply}
use Rattle.engine_semantics.specs.Value.{In, IsMember}
use Rattle.std.specs.Arc.{arc_value}
use Rattle.engine_semantics.specs.Graph.{Record, Lawful, MarksDirty, IsSettled}
use Rattle.engine_semantics.proofs.Touch.{touch_lawful}
use Rattle.engine_semantics.proofs.Settle.{settle_lawful}
use Rattle.keys.specs.Cycles.{cycle}
use Rattle.keys.specs.Values.{value_eq}
use Rattle.keys.specs.ValueLaws.{exact_values}
use Rattle.keys.specs.declared.key.Key.{Key}
use Rattle.keys.specs.declared.value.Value.{Value}
use Rattle.keys.proofs.CycleLaws.{turned}
use Rattle.node.specs.Graphs.{GraphView, record_at, IsTouched, HasCleanMembers, Sets}
use Rattle.node.specs.Writes.{change_of, settled_record, HasReadyMembers}
use Rattle.node.specs.declared.entry.Entry.{Entry}
use Rattle.node.specs.Batches.{entry_groups, keys_of, HasReadyEntries, SetsAll}
use Rattle.node.specs.Laws.{IsConsistentFor, TouchKeepsLawful, SettlingKeepsLawful, BatchKeepsLawful}
use Rattle.node.proofs.Lists.{some_is, none_some, true_false, decide_key}
use Rattle.node.proofs.Batching.{decide_in, entry_of}

pub touch_keeps : (old new : GraphView) (paths : List (List ℕ)) → new.version ≡ old.version + 1 → MarksDirty (record_at old) (record_at new) (IsTouched paths) → TouchKeepsLawful old new paths
touch_keeps old new paths v m next reads edits law e edit stays =
    subst (λ (n : ℕ). Lawful next cycle reads (record_at new) (λ u k. IsTouched (edits u) k) n) (sym v)
    (touch_lawful next cycle reads (record_at old) (record_at new) (λ u k. IsTouched (edits u) k) old.version law
    (subst (λ (p : List (List ℕ)). MarksDirty (record_at old) (record_at new) (IsTouched p)) (sym e) m)
    (λ k n. edit k (subst (λ (p : List (List ℕ)). IsTouched p k → ⊥) e n)) stays)

-- how the changed version comes about
abbrev IsChange : Option (Record Key Value) → Value → ℕ → ℕ → Type 0
IsChange o value version at = ((r : Record Key Value) × (o ≡ Some r) × (r.value ≡ value) × (at ≡ r.changed_at)) ⊎ ((at ≡ version) × ((r : Record Key Value) → o ≡ Some r → r.value ≢ value))

module _ (old new : GraphView) (key : Key) (value : Value) (groups : List (List Key)) (at : ℕ) (same : new.version ≡ old.version)
    (sets : Sets (record_at old) (record_at new) key (record { value = value; groups = groups; settled_at = old.version; changed_at = at; dirty = false }))
    (change : IsChange (record_at old key) value old.version at) where
  pub settling_keeps : ((next : Key → List Value → Reply Key Value) (reads : ℕ → Key → Option Value) (edits : ℕ → List (List ℕ)) → IsConsistentFor next reads edits old → HasReadyMembers (record_at old) key groups) → SettlingKeepsLawful old new key value groups
  settling_keeps ready next reads edits law holds =
      subst (λ (n : ℕ). Lawful next cycle reads (record_at new) (λ u k. IsTouched (edits u) k) n) (sym same)
      (settle_lawful next cycle turned reads (record_at old) (λ u k. IsTouched (edits u) k) old.version law (record_at new) changed)
    where
      own : (i : Key) → key ≡ i → (s : Record Key Value) × (record_at new i ≡ Some s) × (s.dirty ≡ false)
      own i q = (record { value = value; groups = groups; settled_at = old.version; changed_at = at; dirty = false }, ap (record_at new) (sym q) ∙ sets.there, refl)

      members : (i : Key) → IsMember i groups → (s : Record Key Value) × (record_at new i ≡ Some s) × (s.dirty ≡ false)
      members i m = elim (ready next reads edits law i m) [
        | inl q ↦ own i q
        | inr s ↦ elim (decide_key key i) [ inl q ↦ own i q | inr n ↦ (s.0, sets.others i n ∙ s.1, s.2) ]
      ]

      settled : IsSettled next cycle (reads old.version) old.version (record_at old) (record_at new) key
      settled = record { value = value; groups = groups; changed_at = at; stored = sets.there; holds = holds; members = members; change = change }

      changed : (j : Key) → IsSettled next cycle (reads old.version) old.version (record_at old) (record_at new) j ⊎ (record_at new j ≡ record_at old j)
      changed j = elim (decide_key key j) [
        | inl q ↦ inl (subst (IsSettled next cycle (reads old.version) old.version (record_at old) (record_at new)) q settled)
        | inr n ↦ inr (sets.others j n)
      ]

-- a record that is stored
pub is_change : (o : Option (Record Key Value)) (value : Value) (version : ℕ) → IsChange o value version (change_of o value version)
is_change None value version = inr (refl, λ r e. absurd (none_some e))
is_change (Some r) value version = go (value_eq r.value value) refl
  where
    go : (b : Bool) → value_eq r.value value ≡ b → IsChange (Some r) value version (cond (value_eq r.value value) r.changed_at version)
    go true t = inl (r, refl, (exact_values r.value value).0 t, ap (λ b. cond b r.changed_at version) t)
    go false t = inr (ap (λ b. cond b r.changed_at version) t, λ s e q. true_false ((exact_values r.value value).1 (ap (λ (x : Record Key Value). x.value) (some_is e) ∙ q)) t)

pub record_keeps : (old new : GraphView) (key : Key) (value : Value) (groups : List (List Key)) → new.version ≡ old.version → Sets (record_at old) (record_at new) key (settled_record (record_at old key) value groups old.version) → HasReadyMembers (record_at old) key groups → SettlingKeepsLawful old new key value groups
record_keeps old new key value groups v s ready = settling_keeps old new key value groups (change_of (record_at old key) value old.version) v s (is_change (record_at old key) value old.version) (λ next reads edits law. ready)

-- a record that is confirmed
pub confirm_keeps : (old new : GraphView) (key : Key) (r : Record Key Value) → record_at old key ≡ Some r → new.version ≡ old.version → Sets (record_at old) (record_at new) key (record r { settled_at = old.version; dirty = false }) → HasCleanMembers (record_at old) key → SettlingKeepsLawful old new key r.value r.groups
confirm_keeps old new key r e v s clean = settling_keeps old new key r.value r.groups r.changed_at v s (inl (r, e, refl, refl))
    (λ next reads edits law j m. let d = (law.each key r e).depends j m in inr (d.of_j, d.recorded, clean r d.of_j j e m d.recorded))

-- records that are stored together
pub batch_keeps : (old new : GraphView) (entries : List Entry) → new.version ≡ old.version → SetsAll (record_at old) (record_at new) entries old.version → HasReadyEntries (record_at old) entries → BatchKeepsLawful old new entries
batch_keeps old new entries same sets ready next reads edits law holds =
    subst (λ (n : ℕ). Lawful next cycle reads (record_at new) (λ u k. IsTouched (edits u) k) n) (sym same)
    (settle_lawful next cycle turned reads (record_at old) (λ u k. IsTouched (edits u) k) old.version law (record_at new) changed)
  where
    member : (e : Entry) → In e entries → (i : Key) → IsMember i (entry_groups e) → (s : Record Key Value) × (record_at new i ≡ Some s) × (s.dirty ≡ false)
    member e m i a = elim (decide_in (keys_of entries) i) [
      | inl b ↦
          let p = entry_of entries b in
          (settled_record (record_at old p.0.key) (arc_value p.0.value) (entry_groups p.0) old.version, ap (record_at new) (sym p.2) ∙ sets.there p.0 p.1, refl)
      | inr f ↦ elim (ready e m i a) [ inl b ↦ absurd (f b) | inr s ↦ (s.0, sets.others i f ∙ s.1, s.2) ]
    ]

    settled : (e : Entry) → In e entries → IsSettled next cycle (reads old.version) old.version (record_at old) (record_at new) e.key
    settled e m = record {
      value = arc_value e.value;
      groups = entry_groups e;
      changed_at = change_of (record_at old e.key) (arc_value e.value) old.version;
      stored = sets.there e m;
      holds = holds e m;
      members = member e m;
      change = is_change (record_at old e.key) (arc_value e.value) old.version;
    }

    changed : (j : Key) → IsSettled next cycle (reads old.version) old.version (record_at old) (record_at new) j ⊎ (record_at new j ≡ record_at old j)
    changed j = elim (decide_in (keys_of entries) j) [
      | inl b ↦ let p = entry_of entries b in inl (subst (IsSettled next cycle (reads old.version) old.version (record_at old) (record_at new)) p.2 (settled p.0 p.1))
      | inr f ↦ inr (sets.others j f)
    ]
