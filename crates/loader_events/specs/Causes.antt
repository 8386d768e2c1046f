-- Why a node ran: the members of the groups that its record had after its run before, whose value has changed since.
use Rattle.std.specs.Prelude.{ℕ, nat_lt, ◌==◌, List, [], ◌∷◌, filter, Bool, true, false, Option, Some, None, unwrap_or, if◌then◌else◌}
use Rattle.std.specs.Option.{option_map}
use Rattle.std.specs.List.{flat_map}
use Rattle.std.specs.Map.{lookup}
use Rattle.std.specs.BTreeMap.{is_at, insert_entry}
use Rattle.engine_semantics.specs.Graph.{Record}
use Rattle.keys.specs.Keys.{key_cmp}
use Rattle.keys.specs.Leaves.{is_leaf}
use Rattle.keys.specs.declared.key.Key.{Key}
use Rattle.keys.specs.declared.value.Value.{Value}
use Rattle.node.specs.Graphs.{GraphView, record_at}
use Rattle.round_nodes.specs.declared.run.Run.{Run}

-- of a run, its version and the members of the groups that the record had then, in their order
pub record LastRunView : Type 0 where
  pub version : ℕ
  pub members : List Key

-- the last runs of nodes, in the order of their keys
abbrev pub LastRuns : Type 0
LastRuns = List (Key × LastRunView)

abbrev pub last_run_of : LastRuns → Key → Option LastRunView
last_run_of last k = lookup (is_at (key_cmp k)) last

-- the version at which the value of a key changed, if it has a record
abbrev pub changed_at : GraphView → Key → Option ℕ
changed_at graph k = option_map (λ r. r.changed_at) (record_at graph k)

-- whether a value has changed after a version
abbrev pub is_after : ℕ → Option ℕ → Bool
is_after version None = false
is_after version (Some changed) = nat_lt version changed

-- those of these keys whose value has changed after a version
abbrev pub changed_after : GraphView → ℕ → List Key → List Key
changed_after graph version keys = filter (λ j. is_after version (changed_at graph j)) keys

-- the causes of a run that is not the first. A leaf has no members, and so none.
abbrev pub causes_of : GraphView → LastRuns → Key → Option (List Key)
causes_of graph last k = if is_leaf k then Some [] else option_map (λ l. changed_after graph l.version l.members) (last_run_of last k)

-- the members of groups, in their order
abbrev pub joined : List (List Key) → List Key
joined groups = flat_map (λ group. group) groups

-- the members of the groups of a key's record
abbrev pub members_of : GraphView → Key → List Key
members_of graph k = joined (unwrap_or (option_map (λ r. r.groups) (record_at graph k)) [])

-- the last runs after one more. Leaves are not kept.
abbrev pub kept_after_run : GraphView → Run → LastRuns → LastRuns
kept_after_run graph run last = if is_leaf run.key then last else insert_entry key_cmp last run.key (record { version = run.version; members = members_of graph run.key })

-- the last runs after several
abbrev pub kept_after : GraphView → List Run → LastRuns → LastRuns
kept_after graph [] last = last
kept_after graph (run ∷ runs) last = kept_after graph runs (kept_after_run graph run last)

-- whether a value changed at a version
abbrev pub is_at_version : ℕ → Option ℕ → Bool
is_at_version version None = false
is_at_version version (Some changed) = changed == version
