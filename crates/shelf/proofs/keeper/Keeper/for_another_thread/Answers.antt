use Rattle.shelf.proofs.Crossing.{keeper_crosses}
use Rattle.shelf.proofs.keeper.Keeper.for_another_thread.Goals as goal

pub crossing-requires-send-T : goal.crossing-requires-send-T
crossing-requires-send-T g c κs within = let r = c.type_bounds.send-R in search keeper_crosses depth 60 fits 20000
