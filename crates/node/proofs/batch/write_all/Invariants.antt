use Rattle.std.proofs.Common.{◌≡◌, vec_len}
use Rattle.std.specs.Map.{keys_of}
use Rattle.node.specs.Records.{AsksNumbers, numbers_of, users_of}
use Rattle.node.specs.Graphs.{records_of}
use Rattle.node.specs.Batches.{IsWriting, HasFewer, flats_in}
use Rattle.node.proofs.batch.write_all.Given as goal

abbrev pub invariant-loop-entry : goal.invariant-loop-entry
invariant-loop-entry l = record {
  writing : IsWriting (records_of l.fn.records) (records_of l.records) (users_of l.fn.records) (users_of l.records) l.initial.entries.items l.entries.items l.version;
  fewer : HasFewer (numbers_of l.fn.records) (numbers_of l.records);
  keys : keys_of l.records ≡ keys_of l.fn.records;
  asks : AsksNumbers l.records;
  flats : l.flats.items ≡ flats_in l.fn.records l.entries.items;
}

abbrev pub decreases-loop-entry : goal.decreases-loop-entry
decreases-loop-entry l = vec_len l.entries
