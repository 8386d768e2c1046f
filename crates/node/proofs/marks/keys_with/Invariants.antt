use Rattle.std.proofs.Common.{◌≡◌, take}
use Rattle.node_table.specs.Flats.{members_in}
use Rattle.node.proofs.marks.keys_with.Given as goal

abbrev pub invariant-loop-number : goal.invariant-loop-number
invariant-loop-number l = l.keys.items ≡ members_in l.records (take l.number-index l.numbers)
