use Rattle.std.proofs.Common.{◌≡◌, ◌≤◌, drop, length}
use Rattle.filetree.specs.NameMaps.{listed, mapped}
use Rattle.filetree.proofs.name_map.list_as_map.Given as goal

-- the map has the entries from the place on
abbrev pub invariant-loop-left : goal.invariant-loop-left
invariant-loop-left g l = record {
  within : l.left ≤ length l.list;
  filled : mapped l.map ≡ listed (drop l.left l.list);
}

abbrev pub decreases-loop-left : goal.decreases-loop-left
decreases-loop-left g l = l.left
