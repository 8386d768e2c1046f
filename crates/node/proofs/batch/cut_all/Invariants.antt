use Rattle.std.proofs.Common.{take}
use Rattle.node.specs.Records.{KeepsRecords, numbers_of, users_in, users_of}
use Rattle.node.specs.Graphs.{records_of}
use Rattle.node.specs.Batches.{HasCutAll, HasFewer}
use Rattle.node.proofs.batch.cut_all.Given as goal

abbrev pub invariant-loop-entry : goal.invariant-loop-entry
invariant-loop-entry l = record {
  cut : HasCutAll (records_of l.fn.records) (users_of l.fn.records) (users_in l.fn.records (numbers_of l.records)) (take l.entry-index l.entries);
  fewer : HasFewer (numbers_of l.fn.records) (numbers_of l.records);
  same : KeepsRecords l.fn.records l.records;
}
