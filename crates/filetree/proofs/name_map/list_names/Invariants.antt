use Rattle.std.proofs.Common.{◌≡◌, take, map as each}
use Rattle.filetree.specs.NameMaps.{listed}
use Rattle.filetree.proofs.name_map.list_names.Given as goal

abbrev pub invariant-loop-entry : goal.invariant-loop-entry
invariant-loop-entry g l = l.found.items ≡ each (λ e. e.0) (listed (take l.entry-index l.list))
