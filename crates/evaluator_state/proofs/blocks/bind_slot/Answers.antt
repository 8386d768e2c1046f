use Rattle.std.proofs.Common.{sym}
use Rattle.evaluator_state.proofs.Searches.{bind_none}
use Rattle.evaluator_state.proofs.blocks.bind_slot.Goals as goal

pub returns-in_default : goal.returns-in_default
returns-in_default c = sym (bind_none c.args.x.now c.args.value c.args.block.now.slots.items c.in_default.ensures)
