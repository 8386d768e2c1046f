use Rattle.std.proofs.Common.{sym}
use Rattle.round.proofs.turns.is_out.Goals as goal

pub returns-in-Out-clause-yes : goal.returns-in-Out-clause-yes
returns-in-Out-clause-yes c = λ t. (c.in-Some.node.now, sym c.in-Some.ensures.value, c.in-Out.is)
