use Rattle.std.proofs.Common.{◌≡◌, ◌++◌, take, map}
use Rattle.std.specs.List.{concat}
use Rattle.node_table.specs.Flats.{items_of, numbers_in}
use Rattle.node_table.proofs.flat.push_groups.Given as goal

abbrev pub invariant-loop-group : goal.invariant-loop-group
invariant-loop-group g l = l.words.items ≡ l.fn.words.items ++ concat (map (numbers_in l.table) (items_of (take l.group-index l.groups)))
