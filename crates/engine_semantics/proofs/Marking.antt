-- Marks that are closed upwards reach everything that reaches a touched leaf.
use Rattle.std.proofs.Common.{◌≡◌, Bool, true, Option, Some}
use Rattle.engine_semantics.specs.Value.{IsMember}
use Rattle.engine_semantics.specs.Graph.{Record, Reaches, leaf, through}

module _ {K V : Type 0} (records marked : K → Option (Record K V)) (touched : K → Type 0)
    (kept : (k : K) (r : Record K V) → records k ≡ Some r → (dirty : Bool) × (marked k ≡ Some (record r { dirty = dirty })))
    (members : (k : K) (r : Record K V) (j : K) → records k ≡ Some r → IsMember j r.groups → (s : Record K V) × (records j ≡ Some s))
    (leaves : (k : K) (m : Record K V) → touched k → marked k ≡ Some m → m.dirty ≡ true)
    (users : (k : K) (r : Record K V) (j : K) → records k ≡ Some r → IsMember j r.groups → (s m : Record K V) → marked j ≡ Some s → s.dirty ≡ true → marked k ≡ Some m → m.dirty ≡ true) where
  pub reached_marked : {k : K} {m : Record K V} → Reaches records touched k → marked k ≡ Some m → m.dirty ≡ true
  reached_marked (leaf t) e = leaves _ _ t e
  reached_marked (through {k = k} {r = r} {j = j} q i x) e =
      let s = members k r j q i in
      let d = kept j s.0 s.1 in
      users k r j q i _ _ d.1 (reached_marked x d.1) e
