-- What is written into a record.
use Rattle.std.specs.Prelude.{◌≡◌, ◌⊎◌, ℕ, List, [], ◌∷◌, ◌++◌, Bool, false, Option, Some, None, if◌then◌else◌, ◌↔◌, not, ◌||◌}
use Rattle.std.specs.List.{list_all}
use Rattle.std.specs.Arc.{arc_value}
use Rattle.std.specs.declared.sync.Arc.{Arc}
use Rattle.std.specs.declared.alloc.Global.{Global}
use Rattle.keys.specs.Keys.{key_eq}
use Rattle.engine_semantics.specs.Graph.{Record}
use Rattle.engine_semantics.specs.Value.{In, IsMember}
use Rattle.keys.specs.Values.{value_eq}
use Rattle.keys.specs.declared.key.Key.{Key}
use Rattle.keys.specs.declared.value.Value.{Value}
use Rattle.node.specs.declared.records.NodeRecord.{NodeRecord}
use Rattle.node.specs.Records.{Records, Users, users_at, row_of}

-- the version at which a value last changed: it is kept if an equal value was there
abbrev pub change_of : Option (Record Key Value) → Value → ℕ → ℕ
change_of None value version = version
change_of (Some r) value version = (if value_eq r.value value then r.changed_at else version)

-- the record of a key that is settled with this value and these groups
abbrev pub settled_record : Option (Record Key Value) → Value → List (List Key) → ℕ → Record Key Value
settled_record old value groups version = record { value = value; groups = groups; settled_at = version; changed_at = change_of old value version; dirty = false }

-- the members of the groups are the key or have records that are not dirty
abbrev pub HasReadyMembers : (Key → Option (Record Key Value)) → Key → List (List Key) → Type 0
HasReadyMembers records key groups = (j : Key) → IsMember j groups → (key ≡ j) ⊎ ((s : Record Key Value) × (records j ≡ Some s) × (s.dirty ≡ false))

-- the record is not dirty
abbrev pub is_clean : Option (Record Key Value) → Bool
is_clean None = false
is_clean (Some r) = not r.dirty

-- the same as a test
abbrev pub is_ready_group : (Key → Option (Record Key Value)) → Key → List Key → Bool
is_ready_group records key group = list_all (λ j. key_eq key j || is_clean (records j)) group

abbrev pub are_ready : (Key → Option (Record Key Value)) → Key → List (List Key) → Bool
are_ready records key groups = list_all (is_ready_group records key) groups

-- what is kept after a write
abbrev pub record_after_write : NodeRecord → Arc Value Global → List (List ℕ) → ℕ → NodeRecord
record_after_write e value groups version = record e { value = value; groups = groups; settled_at = version; changed_at = (if value_eq (arc_value e.value) (arc_value value) then e.changed_at else version); dirty = false }

-- the groups of what is recorded
abbrev pub groups_at : Option (Record Key Value) → List (List Key)
groups_at None = []
groups_at (Some r) = r.groups

-- each key has the reverse dependencies that it had, in any order
abbrev pub SameSets : Users → Users → Type 0
SameSets old new = (j k : Key) → In k (users_at new j) ↔ In k (users_at old j)

-- a record without groups and reverse dependencies was put at the key
abbrev pub HasPlaced : Records → Records → Key → Value → ℕ → Type 0
HasPlaced old new key value version = (e : NodeRecord) × (new ≡ old ++ (key, e) ∷ []) × (row_of e ≡ record { value = value; groups = []; settled_at = version; changed_at = version; dirty = false }) × (e.users ≡ [])
