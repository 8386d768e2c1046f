use Rattle.std.proofs.Common.{rules, arith}
use Rattle.evaluator_calls.proofs.SparseCalls.{one_more}
use Rattle.evaluator_calls.proofs.sparse_calls.all_named.Goals as goal

pub loop-i-preserved : goal.loop-i-preserved
loop-i-preserved c = one_more c.args.params.now c.args.from c.loop-i.i c.index-params-i.result c.args.named.now (omega arith) (search rules) c.loop-i.invariant

pub returns : goal.returns
returns c = λ _ i from below d. c.loop-i.invariant i from (omega (arith, below, c.loop-i-test.false)) d
