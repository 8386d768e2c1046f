-- What a session knows of packages and modules, and which packages have changed since a version.
use Rattle.std.specs.Prelude.{ℕ, nat_lt, Bool, false, not, List, map, filter, Option, Some, None, is_some, if◌then◌else◌}
use Rattle.std.specs.Option.{option_and_then, option_map}
use Rattle.labels.specs.Labels.{Target, label_text}
use Rattle.keys.specs.Keys.{name_of}
use Rattle.keys.specs.declared.key.Key.{Key}
use Rattle.keys.specs.declared.key.Key.TheVariants as key
use Rattle.keys.specs.declared.value.Value.{Value}
use Rattle.node.specs.Graphs.{GraphView, record_at, present}
use Rattle.loader_commands.specs.Refusals.{module_label}
use Rattle.loader_answers.specs.Effects.{package_roots}

-- the known value of a key: that of a record that no edit has reached since it was settled
abbrev pub held : GraphView → Key → Option Value
held graph k = present (record_at graph k)

-- the known value of the package with a name
abbrev pub held_package : GraphView → List ℕ → Option Value
held_package graph name = held graph (key.Package name)

-- the known value of the module with a label, if the text is one
abbrev pub held_module : GraphView → List ℕ → Option Value
held_module graph text = option_and_then (λ t. held graph (key.Module (label_text t))) (module_label text)

-- whether a key has a known value
abbrev pub is_held : GraphView → Key → Bool
is_held graph k = is_some (held graph k)

-- the version at which the value of a key changed, if it has a record
abbrev pub changed_at : GraphView → Key → Option ℕ
changed_at graph k = option_map (λ r. r.changed_at) (record_at graph k)

-- whether a version is later than another
abbrev pub is_later : ℕ → Option ℕ → Bool
is_later version None = false
is_later version (Some changed) = nat_lt version changed

-- whether a key has a known value that has changed after a version
abbrev pub has_changed : GraphView → ℕ → Key → Bool
has_changed graph version k = if is_held graph k then is_later version (changed_at graph k) else false

-- those of these keys whose known value has changed after a version, in their order
abbrev pub changed_keys : GraphView → ℕ → List Key → List Key
changed_keys graph version keys = filter (λ k. has_changed graph version k) keys

-- those of these keys that have no known value, in their order
abbrev pub unknown_keys : GraphView → List Key → List Key
unknown_keys graph keys = filter (λ k. not (is_held graph k)) keys

-- the names of packages among these that have changed after a version, in their order
abbrev pub changed_names : GraphView → ℕ → List (List ℕ) → List (List ℕ)
changed_names graph version names = map name_of (changed_keys graph version (package_roots names))

-- the names of packages among these that have no known value, in their order
abbrev pub unknown_names : GraphView → List (List ℕ) → List (List ℕ)
unknown_names graph names = map name_of (unknown_keys graph (package_roots names))
