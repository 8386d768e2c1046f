use Rattle.std.proofs.Common.{◌≡◌, ◌++◌, take}
use Rattle.node_table.specs.Flats.{items_of, ends, sizes}
use Rattle.node_table.proofs.flat.push_ends.Given as goal

abbrev pub invariant-loop-group : goal.invariant-loop-group
invariant-loop-group l = record {
  ends : l.words.items ≡ l.fn.words.items ++ ends 0 (items_of (take l.group-index l.groups));
  end : l.end ≡ sizes (items_of (take l.group-index l.groups));
}
