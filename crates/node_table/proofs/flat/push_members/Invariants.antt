use Rattle.std.proofs.Common.{◌≡◌, ◌++◌, take}
use Rattle.node_table.specs.Flats.{numbers_in}
use Rattle.node_table.proofs.flat.push_members.Given as goal

abbrev pub invariant-loop-member : goal.invariant-loop-member
invariant-loop-member g l = l.words.items ≡ l.fn.words.items ++ numbers_in l.table (take l.member-index l.group)
