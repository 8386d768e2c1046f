-- How the check of a recorded node continues: what its next recorded group has now.
use Rattle.std.specs.Prelude.{◌≡◌, ◌≢◌, ◌+◌, ℕ, nat_lt, List, [], filter, not, Bool, true, false, slice_get, Option, Some, None}
use Rattle.std.specs.List.{list_any}
use Rattle.engine_semantics.specs.Graph.{Record}
use Rattle.keys.specs.declared.key.Key.{Key}
use Rattle.keys.specs.declared.value.Value.{Value}
use Rattle.node.specs.Writes.{is_clean}
use Rattle.node.specs.declared.comparison.Comparison.{Comparison}
use Rattle.node.specs.declared.comparison.Comparison.TheVariants as compared

-- the members of a group that are not settled
abbrev pub unsettled_members : (Key → Option (Record Key Value)) → List Key → List Key
unsettled_members records group = filter (λ j. not (is_clean (records j))) group

-- the value changed after a version; a key without a record counts as changed
abbrev pub has_changed : Option (Record Key Value) → ℕ → Bool
has_changed None since = true
has_changed (Some r) since = nat_lt since r.changed_at

-- a member of the group changed after a version
abbrev pub any_changed : (Key → Option (Record Key Value)) → List Key → ℕ → Bool
any_changed records group since = list_any (λ j. has_changed (records j) since) group

-- what a group is, compared with what was recorded at a version: members are not settled; or all are, and one has
-- changed since; or none has, and then this many groups are passed
abbrev pub ComparesGroup : (Key → Option (Record Key Value)) → List Key → ℕ → ℕ → Comparison → Type 0
ComparesGroup records group since next compared.Unchanged = ⊥
ComparesGroup records group since next (compared.NeedsMembers missing) = (missing.items ≡ unsettled_members records group) × (missing.items ≢ [])
ComparesGroup records group since next compared.Changed = (unsettled_members records group ≡ []) × (any_changed records group since ≡ true)
ComparesGroup records group since next (compared.NextGroup passed) = (unsettled_members records group ≡ []) × (any_changed records group since ≡ false) × (passed ≡ next)

-- the next group, if there is one
abbrev pub ComparesNext : (Key → Option (Record Key Value)) → Option (List Key) → ℕ → ℕ → Comparison → Type 0
ComparesNext records None since next found = found ≡ compared.Unchanged
ComparesNext records (Some group) since next found = ComparesGroup records group since next found

-- how a check continues that has passed this many groups of a record
abbrev pub Compares : (Key → Option (Record Key Value)) → Option (Record Key Value) → ℕ → Comparison → Type 0
Compares records None passed found = found ≡ compared.Unchanged
Compares records (Some r) passed found = ComparesNext records (slice_get r.groups passed) r.settled_at (passed + 1) found
