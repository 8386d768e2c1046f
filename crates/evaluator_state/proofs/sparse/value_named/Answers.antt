use Rattle.std.proofs.Common.{◌∙◌, ap, sym, arith}
use Rattle.evaluator_semantics.specs.Arguments.{value_named}
use Rattle.evaluator_state.proofs.SparseNames.{zip_over, named_behind}
use Rattle.evaluator_state.proofs.sparse.value_named.Goals as goal

pub loop-i-preserved : goal.loop-i-preserved
loop-i-preserved c = named_behind c.args.x.now c.loop-i.i c.args.names.now c.args.values.now c.index-names-i.result (omega arith) c.index-names-i.is (sym c.if-is_same.ensures) ∙ c.loop-i.invariant

pub returns : goal.returns
returns c = ap (λ l. value_named c.args.x.now l) (sym (zip_over c.loop-i.i c.args.names.now c.args.values.now (omega arith))) ∙ c.loop-i.invariant
