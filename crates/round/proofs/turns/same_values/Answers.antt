use Rattle.round.proofs.Rounding.{values_decided}
use Rattle.round.proofs.turns.same_values.Goals as goal

pub returns : goal.returns
returns c = values_decided c.args.a.now c.args.b.now c.eq.result c.eq.ensures
