use Rattle.std.proofs.Common.{refl, arith}
use Rattle.evaluator.proofs.TurnParts.{stays}
use Rattle.evaluator.proofs.turning.led.Goals as goal

pub returns-then-is_acting : goal.returns-then-is_acting
returns-then-is_acting c = record {
  leads = c.act_on.ensures.leads;
  falls = stays c.args.m.now c.act_on.new.m c.args.control c.act_on.result (c.act_on.ensures.falls (c.is_acting.ensures c.if-is_acting.true));
}

pub returns-else-is_acting : goal.returns-else-is_acting
returns-else-is_acting c = record {
  leads = λ more knows. refl;
  falls = record { steps = omega arith; weight = λ e. omega arith };
}
