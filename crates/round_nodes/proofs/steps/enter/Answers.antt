use Rattle.std.proofs.Common.{refl}
use Rattle.round_nodes.proofs.steps.enter.Goals as goal

pub returns : goal.returns
returns c = (_, c.in_ok-insert.ensures.updates, c.new.ensures.items, c.new-2.ensures.items, refl)
