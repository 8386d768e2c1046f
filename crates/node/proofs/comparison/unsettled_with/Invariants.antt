use Rattle.std.proofs.Common.{◌≡◌, take}
use Rattle.node_table.specs.Flats.{members_in}
use Rattle.node.specs.Comparisons.{unsettled_members}
use Rattle.node.specs.Graphs.{records_of}
use Rattle.node.proofs.comparison.unsettled_with.Given as goal

-- the members so far that are not settled
abbrev pub invariant-loop-number : goal.invariant-loop-number
invariant-loop-number l = l.missing.items ≡ unsettled_members (records_of l.records) (members_in l.records (take l.number-index l.numbers))
