-- What a graph keeps, as its functions see it.
use Rattle.std.specs.Prelude.{◌≡◌, ℕ, ◌<◌, length, List, [], map, Option, Some, None, sum_by, slice_get, All, if◌then◌else◌}
use Rattle.std.specs.List.{concat, flat_map}
use Rattle.std.specs.Option.{option_to_list}
use Rattle.std.specs.Arc.{arc_value}
use Rattle.std.specs.declared.alloc.Global.{Global}
use Rattle.std.specs.declared.vec.Vec.{Vec}
use Rattle.std.specs.Map.{keys_of, values_of}
use Rattle.engine_semantics.specs.Graph.{Record}
use Rattle.keys.specs.declared.key.Key.{Key}
use Rattle.keys.specs.declared.value.Value.{Value}
use Rattle.node_table.specs.Tables.{value_of, value_at}
use Rattle.node_table.specs.Flats.{members_in}
use Rattle.engine_semantics.specs.Value.{In}
use Rattle.node.specs.declared.records.NodeRecord.{NodeRecord}

-- the records, each with its key, in the order of the keys' numbers
abbrev pub Records : Type 0
Records = List (Key × NodeRecord)

-- the numbers of each key's reverse dependencies
abbrev pub UserLists : Type 0
UserLists = Key → List ℕ

-- the reverse dependencies of each key
abbrev pub Users : Type 0
Users = Key → List Key

abbrev pub kept_at : Records → Key → Option NodeRecord
kept_at records k = value_of records k

-- the numbers of the reverse dependencies that are in a record
abbrev pub rdep_ids : Option NodeRecord → List ℕ
rdep_ids None = []
rdep_ids (Some e) = e.users

-- the numbers of the reverse dependencies of j
abbrev pub numbers_of : Records → Key → List ℕ
numbers_of records j = rdep_ids (kept_at records j)

-- the same for the key with a number
abbrev pub numbers_with : Records → ℕ → List ℕ
numbers_with records n = rdep_ids (value_at records n)

abbrev pub users_at : Users → Key → List Key
users_at users j = users j

-- the reverse dependencies by their numbers
abbrev pub users_in : Records → UserLists → Key → List Key
users_in records lists j = members_in records (lists j)

-- the reverse dependencies that are in the records
abbrev pub users_of : Records → Key → List Key
users_of records j = members_in records (numbers_of records j)

-- the reverse dependencies are numbers of records
abbrev pub AreNumbers : Records → UserLists → Type 0
AreNumbers records lists = (j : Key) (n : ℕ) → In n (lists j) → n < length records

-- the groups of a list of lists
abbrev pub items_of : List (Vec Key Global) → List (List Key)
items_of groups = map (λ g. g.items) groups

-- what is kept of a record but its reverse dependencies, with groups of numbers
abbrev pub row_of : NodeRecord → Record ℕ Value
row_of e = record { value = arc_value e.value; groups = e.groups; settled_at = e.settled_at; changed_at = e.changed_at; dirty = e.dirty }

abbrev pub rows : Records → List (Key × Record ℕ Value)
rows records = map (λ e. (e.0, row_of e.1)) records

-- the keys with these numbers, where the keys are in the order of their numbers
abbrev pub keys_at : List Key → List ℕ → List Key
keys_at keys ns = flat_map (λ n. option_to_list (slice_get keys n)) ns

abbrev pub by_keys : List Key → Record ℕ Value → Record Key Value
by_keys keys r = record { value = r.value; groups = map (keys_at keys) r.groups; settled_at = r.settled_at; changed_at = r.changed_at; dirty = r.dirty }

-- what a contract sees of a record: all but its reverse dependencies, with groups of keys
abbrev pub record_of : List Key → NodeRecord → Record Key Value
record_of keys e = by_keys keys (row_of e)

-- what a contract sees of the records
abbrev pub entries_of : Records → List (Key × Record Key Value)
entries_of records = map (λ e. (e.0, by_keys (keys_of records) e.1)) (rows records)

-- no more than reverse dependencies has changed
abbrev pub KeepsRecords : Records → Records → Type 0
KeepsRecords old new = rows new ≡ rows old

-- the numbers of the members of what is kept
abbrev pub asked_of : Option NodeRecord → List ℕ
asked_of None = []
asked_of (Some e) = concat e.groups

-- the members of the groups are numbers of records
abbrev pub AsksNumbers : Records → Type 0
AsksNumbers records = (k : Key) (e : NodeRecord) → kept_at records k ≡ Some e → All (All (λ n. n < length records)) e.groups

-- how many records are not dirty
abbrev pub cost : NodeRecord → ℕ
cost e = if e.dirty then 0 else 1

abbrev pub cleans : Records → ℕ
cleans records = sum_by cost (values_of records)
