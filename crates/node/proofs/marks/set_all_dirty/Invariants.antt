use Rattle.std.proofs.Common.{◌≡◌, take}
use Rattle.std.specs.Map.{keys_of}
use Rattle.node.specs.Marks.{SetsMarks}
use Rattle.node.proofs.marks.set_all_dirty.Given as goal

abbrev pub invariant-loop-key : goal.invariant-loop-key
invariant-loop-key l = record {
  sets : SetsMarks l.fn.dirty l.fn.records l.records (take l.key-index l.keys);
  keys : keys_of l.records ≡ keys_of l.fn.records;
}
