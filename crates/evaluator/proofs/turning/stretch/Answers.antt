use Rattle.evaluator_semantics.specs.Environment.{Env}
use Rattle.evaluator.specs.Machines.{means}
use Rattle.evaluator.proofs.Turns.{leads_on, no_turn}
use Rattle.evaluator.proofs.turning.stretch.Goals as goal

pub returns-in_default : goal.returns-in_default
returns-in_default c = record {
  leads = leads_on c.args.e.now (λ (env : Env). means env c.args.m.now c.args.control) (λ (env : Env). means env c.loop-next.m c.loop-next.control) c.in_ok-ended.ended c.turn.new.m c.loop-next.invariant.0 c.in_ok-ended.ensures.leads;
  fewer = no_turn c.args.m.now c.turn.new.m c.in_ok-ended.ended c.in_default.not-Goes;
}
