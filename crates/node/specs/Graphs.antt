-- What a contract sees of a graph, and what is true of its parts.
use Rattle.std.specs.Prelude.{◌≡◌, ◌≢◌, ◌⊎◌, ℕ, List, map, Option, Some, None, true, false, if◌then◌else◌}
use Rattle.std.specs.Option.{option_map}
use Rattle.std.specs.Map.{keys_of, lookup}
use Rattle.std.specs.BTreeMap.{is_at}
use Rattle.engine_semantics.specs.Graph.{Record, Reaches}
use Rattle.engine_semantics.specs.Value.{In, IsMember}
use Rattle.keys.specs.Keys.{key_cmp}
use Rattle.keys.specs.declared.key.Key.{Key}
use Rattle.keys.specs.declared.value.Value.{Value}
pub use Rattle.keys.specs.EditLeaves.{touched_leaves, IsTouched}
use Rattle.std.specs.Borrow.{Bor}
use Rattle.node_table.specs.Tables.{AreDistinct}
use Rattle.node.specs.Records.{Records, Users, AreNumbers, AsksNumbers, kept_at, users_at, users_of, numbers_of, record_of, entries_of}

-- the paths that references point to
abbrev pub paths_seen : List (Bor (List ℕ)) → List (List ℕ)
paths_seen = map (λ p. p.now)

-- its version, and its records in the order in which their keys were first recorded
pub record GraphView : Type 0 where
  pub version : ℕ
  pub records : List (Key × Record Key Value)

abbrev pub recorded : ℕ → Records → GraphView
recorded version records = record { version = version; records = entries_of records }

-- the record of a key
abbrev pub record_at : GraphView → Key → Option (Record Key Value)
record_at graph k = lookup (is_at (key_cmp k)) graph.records

-- the record that a contract sees of a key
abbrev pub records_of : Records → Key → Option (Record Key Value)
records_of records k = option_map (record_of (keys_of records)) (kept_at records k)

-- the value of a key, if it has a record that is not dirty
abbrev pub present : Option (Record Key Value) → Option Value
present None = None
present (Some r) = (if r.dirty then None else Some r.value)

-- the reverse dependencies are the inverse of the recorded groups; each member of a group has a record, dirty only
-- where the record with that group is
pub record IsLinked (records : Key → Option (Record Key Value)) (users : Users) : Type 0 where
  pub used : (j k : Key) → In k (users_at users j) → (r : Record Key Value) × (records k ≡ Some r) × IsMember j r.groups
  pub complete : (j k : Key) (r : Record Key Value) → records k ≡ Some r → IsMember j r.groups → In k (users_at users j)
  pub members : (j k : Key) (r : Record Key Value) → records k ≡ Some r → IsMember j r.groups → (s : Record Key Value) × (records j ≡ Some s)
  pub dirty_above : (j k : Key) (r s : Record Key Value) → records k ≡ Some r → IsMember j r.groups → records j ≡ Some s → s.dirty ≡ true → r.dirty ≡ true

-- the same for the reverse dependencies and the members that are in the records, which are numbers of records
pub record IsLinkedBy (records : Records) : Type 0 where
  pub linked : IsLinked (records_of records) (users_of records)
  pub numbers : AreNumbers records (numbers_of records)
  pub asks : AsksNumbers records
  pub ordered : AreDistinct records

-- no member of the groups of k's record has a dirty one
abbrev pub HasCleanMembers : (Key → Option (Record Key Value)) → Key → Type 0
HasCleanMembers records k = (r s : Record Key Value) (j : Key) → records k ≡ Some r → IsMember j r.groups → records j ≡ Some s → s.dirty ≡ false

-- the record of one key is set
pub record Sets (old new : Key → Option (Record Key Value)) (k : Key) (r : Record Key Value) : Type 0 where
  pub there : new k ≡ Some r
  pub others : (j : Key) → k ≢ j → new j ≡ old j

-- the keys whose records an edit that touches these leaves has to mark dirty: clean so far, and they reach one of the
-- leaves
pub record AreReached (records : Key → Option (Record Key Value)) (touched : Key → Type 0) (keys : List Key) : Type 0 where
  pub each : (k : Key) → In k keys → (r : Record Key Value) × (records k ≡ Some r) × (r.dirty ≡ false) × Reaches records touched k
  pub all : (k : Key) (r : Record Key Value) → records k ≡ Some r → Reaches records touched k → (r.dirty ≡ true) ⊎ In k keys
