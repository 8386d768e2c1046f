use Rattle.std.proofs.Common.{ap, sym, ◌∙◌}
use Rattle.values_semantics.specs.Comparing.{same_text}
use Rattle.evaluator_state.proofs.Searches.{none_more}
use Rattle.evaluator_state.proofs.sparse.first_name.Goals as goal

pub loop-i-preserved : goal.loop-i-preserved
loop-i-preserved c = none_more (same_text c.args.x.now) c.args.names.now c.loop-i.i c.index-names-i.result c.loop-i-test.true c.loop-i.invariant (ap (same_text c.args.x.now) (sym c.index-names-i.is) ∙ sym c.if-is_same.ensures)
