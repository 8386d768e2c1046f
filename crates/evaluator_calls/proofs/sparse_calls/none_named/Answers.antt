use Rattle.std.proofs.Common.{is_some, ap, sym, ◌∙◌, arith}
use Rattle.evaluator_calls.proofs.SparseCalls.{none_more}
use Rattle.evaluator_calls.proofs.sparse_calls.none_named.Goals as goal

pub loop-i-preserved : goal.loop-i-preserved
loop-i-preserved c = none_more c.args.params.now c.loop-i.i c.index-params-i.result c.args.named.now (omega arith) (sym (c.if-is_some.ensures ∙ ap is_some c.value.ensures)) c.loop-i.invariant

pub returns : goal.returns
returns c = λ _ i from below d. c.loop-i.invariant i from (omega (arith, below, c.loop-i-test.false)) d
