use Rattle.std.proofs.Common.{sym}
use Rattle.evaluator_state.specs.Places.{is_slot}
use Rattle.evaluator_state.proofs.Searches.{none_more}
use Rattle.evaluator_state.proofs.places.first_place.Goals as goal

pub loop-i-preserved : goal.loop-i-preserved
loop-i-preserved c = none_more (is_slot c.args.x.now) c.args.slots.now c.loop-i.i c.index-slots-i.result c.loop-i-test.true c.loop-i.invariant (sym c.if-is_same.ensures)
