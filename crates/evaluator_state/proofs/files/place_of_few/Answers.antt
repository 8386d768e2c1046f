use Rattle.std.proofs.Common.{sym}
use Rattle.evaluator_state.specs.Places.{is_file}
use Rattle.evaluator_state.proofs.Searches.{none_more}
use Rattle.evaluator_state.proofs.files.place_of_few.Goals as goal

pub loop-i-preserved : goal.loop-i-preserved
loop-i-preserved c = none_more (is_file c.args.label.now) c.args.files.now c.loop-i.i c.index-files-i.result c.loop-i-test.true c.loop-i.invariant (sym c.if-eq.ensures)
