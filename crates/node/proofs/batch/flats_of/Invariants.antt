use Rattle.std.proofs.Common.{◌≡◌, take}
use Rattle.node.specs.Batches.{flats_in}
use Rattle.node.proofs.batch.flats_of.Given as goal

abbrev pub invariant-loop-entry : goal.invariant-loop-entry
invariant-loop-entry l = l.flats.items ≡ flats_in l.records (take l.entry-index l.entries)
