use Rattle.std.proofs.Common.{◌≡◌, take, false}
use Rattle.node_table.specs.Flats.{members_in}
use Rattle.node.specs.Comparisons.{any_changed}
use Rattle.node.specs.Graphs.{records_of}
use Rattle.node.proofs.comparison.any_changed_with.Given as goal

-- none of the members so far has changed
abbrev pub invariant-loop-number : goal.invariant-loop-number
invariant-loop-number l = any_changed (records_of l.records) (members_in l.records (take l.number-index l.numbers)) l.since ≡ false
