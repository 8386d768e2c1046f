use Rattle.std.proofs.Common.{arith}
use Rattle.node.proofs.Batching.{removed_last, all_removed}
use Rattle.node.proofs.batch.remove_all.Goals as goal

pub loop-records-preserved : goal.loop-records-preserved
loop-records-preserved c = λ original h f.
    removed_last original c.loop-records.records c.pop.new.self c.pop.result c.pop.ensures.rest c.pop.ensures.found (omega (arith, c.len.ensures.len, c.loop-records-test.true, f)) (c.loop-records.invariant original h f)

pub returns : goal.returns
returns c = λ original h f. all_removed original c.loop-records.records (omega (arith, c.len.ensures.len, c.loop-records-test.false, f)) (c.loop-records.invariant original h f)
