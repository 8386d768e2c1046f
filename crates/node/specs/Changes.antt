-- What one step of storing does to the records.
use Rattle.std.specs.Prelude.{◌≡◌, ◌≢◌, ℕ, List, IsSome}
use Rattle.engine_semantics.specs.Graph.{Record}
use Rattle.engine_semantics.specs.Value.{In, IsMember}
use Rattle.keys.specs.declared.key.Key.{Key}
use Rattle.keys.specs.declared.value.Value.{Value}
use Rattle.node_table.specs.Flats.{members_in}
use Rattle.node.specs.declared.entry.Entry.{Entry}
use Rattle.node.specs.Records.{Records, numbers_with, users_of, KeepsRecords}
use Rattle.node.specs.Writes.{settled_record, SameSets}
use Rattle.node.specs.Edges.{HasUsers}
use Rattle.node.specs.Graphs.{Sets, records_of}
use Rattle.node.specs.Batches.{IsToWrite, HasWrittenAll}

-- the reverse dependencies of the key with a number
abbrev pub users_with : Records → ℕ → List Key
users_with records n = members_in records (numbers_with records n)

-- each key but this one has the record that it had
abbrev pub KeepsRecordsBut : Key → Records → Records → Type 0
KeepsRecordsBut key old new = (k : Key) → key ≢ k → records_of new k ≡ records_of old k

-- the records are as they were, and each key has the reverse dependencies that it had, in any order
abbrev pub KeepsRecordsAndUsers : Records → Records → Type 0
KeepsRecordsAndUsers old new = KeepsRecords old new × SameSets (users_of old) (users_of new)

-- each member of the groups has a record
abbrev pub HasMemberRecords : Records → List (List Key) → Type 0
HasMemberRecords records groups = (j : Key) → IsMember j groups → IsSome (records_of records j)

-- the key was settled with this value and these groups, and no other record was set
abbrev pub SetsSettled : Records → Records → Key → Value → List (List Key) → ℕ → Type 0
SetsSettled old new key value groups version = Sets (records_of old) (records_of new) key (settled_record (records_of old key) value groups version)

-- the key is now a reverse dependency of the members of these groups alone, and no other reverse edge has changed
abbrev pub Relinks : Records → Records → Key → List (List Key) → Type 0
Relinks old new key groups = HasUsers (users_of old) (users_of new) key groups

-- the entry's key has a record over which the entry can be written
abbrev pub IsToBeWritten : Records → Entry → Type 0
IsToBeWritten records e = (w : Record Key Value) × IsToWrite (records_of records) (users_of records) e w

-- each of the entries' keys has such a record
abbrev pub AreToBeWritten : Records → List Entry → Type 0
AreToBeWritten records entries = (e : Entry) → In e entries → IsToBeWritten records e

-- the entries are written with their reverse edges, and nothing else is
abbrev pub WritesAll : Records → Records → List Entry → ℕ → Type 0
WritesAll old new entries version = HasWrittenAll (records_of old) (records_of new) (users_of old) (users_of new) entries version
