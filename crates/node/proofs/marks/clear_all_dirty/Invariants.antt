use Rattle.std.proofs.Common.{◌≡◌, false, take}
use Rattle.std.specs.Map.{keys_of}
use Rattle.node_table.specs.Flats.{members_in}
use Rattle.node.specs.Marks.{SetsMarks}
use Rattle.node.proofs.marks.clear_all_dirty.Given as goal

abbrev pub invariant-loop-number : goal.invariant-loop-number
invariant-loop-number l = record {
  sets : SetsMarks false l.fn.records l.records (members_in l.fn.records (take l.number-index l.numbers));
  keys : keys_of l.records ≡ keys_of l.fn.records;
}
