-- Records that are stored together.
use Rattle.std.specs.Prelude.{◌≡◌, ◌⊎◌, ℕ, List, [], ◌++◌, ◌<◌, All, length, map, Option, Some, None, false, IsSome}
use Rattle.std.specs.Arc.{arc_value}
use Rattle.engine_semantics.specs.Graph.{Record}
use Rattle.engine_semantics.specs.Value.{AllDiffer, In, IsMember}
use Rattle.node_table.specs.Flats.{groups_in, numbers_in}
use Rattle.keys.specs.declared.key.Key.{Key}
use Rattle.keys.specs.declared.value.Value.{Value}
use Rattle.node.specs.declared.entry.Entry.{Entry}
use Rattle.node.specs.Records.{Records, Users, UserLists, users_at, items_of}
use Rattle.node.specs.Writes.{settled_record, groups_at}

-- the groups of an entry
abbrev pub entry_groups : Entry → List (List Key)
entry_groups e = items_of e.groups.items

abbrev pub keys_of : List Entry → List Key
keys_of entries = map (λ e. e.key) entries

-- each member of the entries' groups is a key of theirs or has a record that is not dirty
abbrev pub HasReadyEntries : (Key → Option (Record Key Value)) → List Entry → Type 0
HasReadyEntries records entries = (e : Entry) → In e entries → (j : Key) → IsMember j (entry_groups e) → In j (keys_of entries) ⊎ ((s : Record Key Value) × (records j ≡ Some s) × (s.dirty ≡ false))

-- the records of the entries' keys are set, and no others
pub record SetsAll (old new : Key → Option (Record Key Value)) (entries : List Entry) (version : ℕ) : Type 0 where
  pub there : (e : Entry) → In e entries → new e.key ≡ Some (settled_record (old e.key) (arc_value e.value) (entry_groups e) version)
  pub others : (j : Key) → (In j (keys_of entries) → ⊥) → new j ≡ old j

-- records were put after the old ones
abbrev pub HasPlacedSome : Records → Records → Type 0
HasPlacedSome old new = (more : Records) × (new ≡ old ++ more)

-- the entry's key had a record and has it still, or it had none and has one without groups
abbrev pub IsThere : (Key → Option (Record Key Value)) → (Key → Option (Record Key Value)) → Entry → ℕ → Type 0
IsThere old new e version = ((w : Record Key Value) × (old e.key ≡ Some w) × (new e.key ≡ Some w))
    ⊎ ((old e.key ≡ None) × (new e.key ≡ Some (settled_record None (arc_value e.value) [] version)))

-- each entry's key has a record, and the other keys have the record that they had
pub record HasPlacedAll (old new : Key → Option (Record Key Value)) (entries : List Entry) (version : ℕ) : Type 0 where
  pub there : (e : Entry) → In e entries → IsThere old new e version
  pub others : (k : Key) → (In k (keys_of entries) → ⊥) → new k ≡ old k

-- an entry of the key has j in a group
abbrev pub Asks : List Entry → Key → Key → Type 0
Asks entries j k = (e : Entry) × In e entries × (e.key ≡ k) × IsMember j (entry_groups e)

-- the entries' keys became reverse dependencies of some of their members
pub record HasLinkedEntries (old new : Users) (entries : List Entry) : Type 0 where
  pub from : (j k : Key) → In k (users_at new j) → In k (users_at old j) ⊎ Asks entries j k
  pub keeps : (j k : Key) → In k (users_at old j) → In k (users_at new j)

-- the entries' keys are reverse dependencies of all of their members
abbrev pub HasLinkedEach : Users → List Entry → Type 0
HasLinkedEach new entries = (e : Entry) → In e entries → (j : Key) → IsMember j (entry_groups e) → In e.key (users_at new j)

-- k's record has j in a group
abbrev pub kept_members : (Key → Option (Record Key Value)) → Key → Key → Type 0
kept_members records k j = (w : Record Key Value) × (records k ≡ Some w) × IsMember j w.groups

-- each entry's key has a record
abbrev pub AreRecorded : (Key → Option (Record Key Value)) → List Entry → Type 0
AreRecorded records entries = (e : Entry) → In e entries → IsSome (records e.key)

-- each member of the entries' groups has a record
abbrev pub HaveMembers : (Key → Option (Record Key Value)) → List Entry → Type 0
HaveMembers records entries = (e : Entry) → In e entries → (j : Key) → IsMember j (entry_groups e) → IsSome (records j)

-- reverse dependencies were removed, and nothing else changed
abbrev pub HasFewer : UserLists → UserLists → Type 0
HasFewer old new = (j : Key) (n : ℕ) → In n (new j) → In n (old j)

-- each entry's key is a reverse dependency of the members of its record
abbrev pub AreUsers : (Key → Option (Record Key Value)) → Users → List Entry → Type 0
AreUsers records users entries = (e : Entry) → In e entries → (j : Key) → IsMember j (groups_at (records e.key)) → In e.key (users_at users j)

-- the groups of each entry, by the numbers of their members
abbrev pub flats_in : Records → List Entry → List (List (List ℕ))
flats_in records entries = map (λ e. map (numbers_in records) (entry_groups e)) entries

-- these are the groups of the entry, by the numbers of records
pub record HasReadyFlat (records : Records) (e : Entry) (flat : List (List ℕ)) : Type 0 where
  pub groups : groups_in records flat ≡ entry_groups e
  pub within : All (All (λ n. n < length records)) flat

-- the entries' keys are no longer reverse dependencies of their members, except of those that are in their records
pub record HasCutAll (records : Key → Option (Record Key Value)) (old new : Users) (entries : List Entry) : Type 0 where
  pub from : (j k : Key) → In k (users_at new j) → In k (users_at old j)
  pub gone : (e : Entry) → In e entries → (j : Key) → IsMember j (entry_groups e) → (kept_members records e.key j → ⊥) → In e.key (users_at new j) → ⊥
  pub kept : (j k : Key) → In k (users_at old j) → kept_members records k j → In k (users_at new j)

-- the entry's key has a record, and is a reverse dependency of its members and those of the entry
pub record IsToWrite (records : Key → Option (Record Key Value)) (users : Users) (e : Entry) (w : Record Key Value) : Type 0 where
  pub there : records e.key ≡ Some w
  pub own : (j : Key) → In e.key (users_at users j) → IsMember j w.groups ⊎ IsMember j (entry_groups e)
  pub old_has : (j : Key) → IsMember j w.groups → In e.key (users_at users j)
  pub has : (j : Key) → IsMember j (entry_groups e) → In e.key (users_at users j)

-- the entry is written over what was recorded, and its key is a reverse dependency of its members
pub record IsWritten (records : Key → Option (Record Key Value)) (users : Users) (e : Entry) (version : ℕ) (w : Record Key Value) : Type 0 where
  pub there : records e.key ≡ Some (settled_record (Some w) (arc_value e.value) (entry_groups e) version)
  pub own : (j : Key) → In e.key (users_at users j) → IsMember j (entry_groups e)
  pub has : (j : Key) → IsMember j (entry_groups e) → In e.key (users_at users j)

-- a key has the record and is a reverse dependency of the members that it was
pub record IsSame (old new : Key → Option (Record Key Value)) (old_users users : Users) (k : Key) : Type 0 where
  pub record_same : new k ≡ old k
  pub from : (j : Key) → In k (users_at users j) → In k (users_at old_users j)
  pub keeps : (j : Key) → In k (users_at old_users j) → In k (users_at users j)

-- all entries are written, and nothing else
pub record HasWrittenAll (old new : Key → Option (Record Key Value)) (old_users users : Users) (entries : List Entry) (version : ℕ) : Type 0 where
  pub each : (e : Entry) → In e entries → (w : Record Key Value) × (old e.key ≡ Some w) × IsWritten new users e version w
  pub others : (k : Key) → (In k (keys_of entries) → ⊥) → IsSame old new old_users users k

-- while the entries are written: the rest is to be written, the others are
pub record IsWriting (start now : Key → Option (Record Key Value)) (start_users users : Users) (entries rest : List Entry) (version : ℕ) : Type 0 where
  pub differ : AllDiffer (keys_of rest)
  pub within : (e : Entry) → In e rest → In e entries
  pub left : (e : Entry) → In e rest → (w : Record Key Value) × (start e.key ≡ Some w) × IsToWrite now users e w
  pub done : (e : Entry) → In e entries → In e rest ⊎ ((w : Record Key Value) × (start e.key ≡ Some w) × IsWritten now users e version w)
  pub others : (k : Key) → (In k (keys_of entries) → ⊥) → IsSame start now start_users users k
