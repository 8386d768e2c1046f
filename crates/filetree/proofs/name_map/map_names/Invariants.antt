use Rattle.std.proofs.Common.{◌≡◌, ◌++◌, map as each, string_bytes}
use Rattle.std.specs.BTreeMap.{keys}
use Rattle.filetree.proofs.name_map.map_names.Given as goal

-- the names so far, and those that are left
abbrev pub invariant-loop-name : goal.invariant-loop-name
invariant-loop-name g l = l.found.items ++ each string_bytes l.name-iterator ≡ each string_bytes (keys l.map)
