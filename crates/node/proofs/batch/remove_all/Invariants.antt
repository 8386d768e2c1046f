use Rattle.std.proofs.Common.{◌≡◌, length}
use Rattle.node.specs.Records.{Records}
use Rattle.node.specs.Batches.{HasPlacedSome}
use Rattle.node.proofs.batch.remove_all.Given as goal

abbrev pub invariant-loop-records : goal.invariant-loop-records
invariant-loop-records l = (original : Records) → HasPlacedSome original l.fn.records → l.first ≡ length original → HasPlacedSome original l.records

abbrev pub decreases-loop-records : goal.decreases-loop-records
decreases-loop-records l = length l.records
