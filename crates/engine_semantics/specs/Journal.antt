-- Which runs are justified.
use Rattle.std.specs.Prelude.{ℕ, ◌<◌, ◌≤◌, List, Option, Some, None}
use Rattle.engine_semantics.specs.Reply.{Reply}
use Rattle.engine_semantics.specs.Value.{IsMember}
use Rattle.engine_semantics.specs.Graph.{Record, Differs}

-- what was kept of a key when it was last settled, or None
module _ {K V : Type 0} (next : K → List V → Reply K V) (cycle : List K → V) (reads : ℕ → K → Option V) (touched : ℕ → K → Type 0) where
  -- a run of k at version v
  pub data RunIsJustified (v : ℕ) : Option (Record K V) → Type 0 where
    never_settled : RunIsJustified v None
    dependency_differs : {r : Record K V} {j : K} → IsMember j r.groups → Differs next cycle reads j r.settled_at v → RunIsJustified v (Some r)

  -- a read of the leaf k at version v
  pub data ReadIsJustified (k : K) (v : ℕ) : Option (Record K V) → Type 0 where
    never_read : ReadIsJustified k v None
    edited : {r : Record K V} {u : ℕ} → r.settled_at < u → u ≤ v → touched u k → ReadIsJustified k v (Some r)
