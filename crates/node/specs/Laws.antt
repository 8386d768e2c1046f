-- A consistent graph stays consistent. `reads u` reads the leaves of the files at version u, and `edits u` are the
-- paths that the edit to version u changed.
use Rattle.std.specs.Prelude.{◌≡◌, ℕ, ◌+◌, List, Option, Some}
use Rattle.engine_semantics.specs.Reply.{Reply}
use Rattle.std.specs.Arc.{arc_value}
use Rattle.engine_semantics.specs.Value.{Settles, In}
use Rattle.engine_semantics.specs.Graph.{Lawful}
use Rattle.keys.specs.Cycles.{cycle}
use Rattle.keys.specs.declared.key.Key.{Key}
use Rattle.keys.specs.declared.value.Value.{Value}
use Rattle.node.specs.declared.entry.Entry.{Entry}
use Rattle.node.specs.Batches.{entry_groups}
use Rattle.node.specs.Graphs.{GraphView, record_at, IsTouched}

-- the graph's records are true of this history of the files, under these node functions
abbrev pub IsConsistentFor : (Key → List Value → Reply Key Value) → (ℕ → Key → Option Value) → (ℕ → List (List ℕ)) → GraphView → Type 0
IsConsistentFor next reads edits graph = Lawful next cycle reads (record_at graph) (λ u k. IsTouched (edits u) k) graph.version

-- an edit of these paths leads from a consistent graph to a consistent one, if it changes no other leaf and no key
-- begins or ceases to be a leaf
abbrev pub TouchKeepsLawful : GraphView → GraphView → List (List ℕ) → Type 0
TouchKeepsLawful old new paths = (next : Key → List Value → Reply Key Value) (reads : ℕ → Key → Option Value) (edits : ℕ → List (List ℕ))
    → IsConsistentFor next reads edits old → edits (old.version + 1) ≡ paths
    → ((k : Key) → (IsTouched paths k → ⊥) → reads (old.version + 1) k ≡ reads old.version k)
    → ((u w : ℕ) (k : Key) (v : Value) → reads u k ≡ Some v → (x : Value) × (reads w k ≡ Some x))
    → IsConsistentFor next reads edits new

-- settling a key with its present value and groups leads from a consistent graph to a consistent one
abbrev pub SettlingKeepsLawful : GraphView → GraphView → Key → Value → List (List Key) → Type 0
SettlingKeepsLawful old new key value groups = (next : Key → List Value → Reply Key Value) (reads : ℕ → Key → Option Value) (edits : ℕ → List (List ℕ))
    → IsConsistentFor next reads edits old → Settles next (reads old.version) cycle key groups value → IsConsistentFor next reads edits new

-- the same where several keys are settled together
abbrev pub BatchKeepsLawful : GraphView → GraphView → List Entry → Type 0
BatchKeepsLawful old new entries = (next : Key → List Value → Reply Key Value) (reads : ℕ → Key → Option Value) (edits : ℕ → List (List ℕ))
    → IsConsistentFor next reads edits old → ((e : Entry) → In e entries → Settles next (reads old.version) cycle e.key (entry_groups e) (arc_value e.value)) → IsConsistentFor next reads edits new

-- the graph is consistent for any history under any node functions
abbrev pub IsAlwaysLawful : GraphView → Type 0
IsAlwaysLawful graph = (next : Key → List Value → Reply Key Value) (reads : ℕ → Key → Option Value) (edits : ℕ → List (List ℕ)) → IsConsistentFor next reads edits graph
