use Rattle.std.proofs.Common.{◌≡◌, take}
use Rattle.filetree.specs.NameMaps.{listed}
use Rattle.filetree.proofs.name_map.copy_list.Given as goal

abbrev pub invariant-loop-entry : goal.invariant-loop-entry
invariant-loop-entry g l = listed l.copy.items ≡ listed (take l.entry-index l.list)
