use Rattle.std.proofs.Common.{take}
use Rattle.node_table.specs.Tables.{AreDistinct}
use Rattle.node.specs.Records.{AsksNumbers, numbers_of}
use Rattle.node.specs.Graphs.{records_of}
use Rattle.node.specs.Edges.{SameUsers}
use Rattle.node.specs.Batches.{HasPlacedSome, HasPlacedAll}
use Rattle.node.proofs.batch.place_all.Given as goal

abbrev pub invariant-loop-entry : goal.invariant-loop-entry
invariant-loop-entry l = record {
  some : HasPlacedSome l.fn.records l.records;
  all : HasPlacedAll (records_of l.fn.records) (records_of l.records) (take l.entry-index l.entries) l.version;
  lists : SameUsers (numbers_of l.fn.records) (numbers_of l.records);
  asks : AsksNumbers l.records;
  ordered : AreDistinct l.records;
}
