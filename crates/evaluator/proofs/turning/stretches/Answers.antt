use Rattle.std.proofs.Common.{Ok, subst, rules}
use Rattle.evaluator_semantics.specs.Environment.{Env}
use Rattle.evaluator.specs.declared.machine.Environment.{Environment}
use Rattle.evaluator.specs.Machines.{Leads, means}
use Rattle.evaluator.proofs.Turns.{leads_after, leads_on, none_left}
use Rattle.evaluator.proofs.turning.stretches.Goals as goal

pub returns-in_default : goal.returns-in_default
returns-in_default c =
    let e = c.args.e.now in
    let next = λ (env : Env). means env c.loop-next.m c.loop-next.control in
    let ended = c.in_ok-ended.ended in
    record {
      leads = leads_on e (λ (env : Env). means env c.args.m.now c.args.control) next ended c.stretch.new.m c.loop-next.invariant.leads
          (subst (λ (s : Environment). Leads s next (Ok ended) c.stretch.new.m) c.loop-next.invariant.given c.in_ok-ended.ensures.leads);
      over = none_left c.in_ok-ended.ended c.in_default.not-Goes;
      given = c.loop-next.invariant.given;
    }

pub returns-in_err-ended-clause-leads : goal.returns-in_err-ended-clause-leads
returns-in_err-ended-clause-leads c =
    let e = c.args.e.now in
    let next = λ (env : Env). means env c.loop-next.m c.loop-next.control in
    leads_after e (λ (env : Env). means env c.args.m.now c.args.control) next c.from_residual.result c.stretch.new.m c.loop-next.invariant.leads
    (subst (λ (s : Environment). Leads s next c.from_residual.result c.stretch.new.m) c.loop-next.invariant.given (first_of (search rules, search (rules, c.in_err-ended.ensures.leads))))
