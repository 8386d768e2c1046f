use Rattle.std.proofs.Common.{take}
use Rattle.node.specs.Records.{AreNumbers, KeepsRecords, numbers_of, users_in, users_of}
use Rattle.node.specs.Batches.{HasLinkedEntries, HasLinkedEach}
use Rattle.node.proofs.batch.link_all.Given as goal

abbrev pub invariant-loop-entry : goal.invariant-loop-entry
invariant-loop-entry l = record {
  some : HasLinkedEntries (users_of l.fn.records) (users_in l.fn.records (numbers_of l.records)) l.entries;
  all : HasLinkedEach (users_in l.fn.records (numbers_of l.records)) (take l.entry-index l.entries);
  numbers : AreNumbers l.fn.records (numbers_of l.records);
  same : KeepsRecords l.fn.records l.records;
}
