use Rattle.std.proofs.Common.{sym, ap, ◌∷◌, suc-ne-zero}
use Rattle.board.specs.Rule.{bit}
use Rattle.engine_semantics.specs.Choices.{Back}
use Rattle.node.proofs.Lists.{on_err}
use Rattle.pool.proofs.Ends.{not_ok}
use Rattle.pool.proofs.Keeping.{looked_in_vain, taken, vain_same, collected_same}
use Rattle.pool.proofs.steps.collect_next.Goals as goal

pub take_known-requires-clause-out : goal.take_known-requires-clause-out
take_known-requires-clause-out g c κs within = c.requires.known c.in-Some._place c.in-Some.turned.asked c.in-Some.ensures.collected.1.0

pub returns-in_err-take_known-in-Some-clause-host : goal.returns-in_err-take_known-in-Some-clause-host
returns-in_err-take_known-in-Some-clause-host g c = (c.collect.ensures.host, collected_same c.args.host.now.seat.me.0 c.collect.new.host.seat.me.0 c.in-Some._place c.in-Some.turned c.in-Some.ensures.collected.1)

pub returns-in_err-take_known-in-Some-clause-truth : goal.returns-in_err-take_known-in-Some-clause-truth
returns-in_err-take_known-in-Some-clause-truth g c = record {
  well = not_ok _ c.from_residual.result c.from_residual.ensures.0;
  stopped = on_err c.from_residual.result (λ roots entry since laws past h. let t = since laws past h in c.in_err-take_known-in-Some.ensures.truth laws past t.0 t.1);
}

pub returns-in-None-clause-host : goal.returns-in-None-clause-host
returns-in-None-clause-host g c = (c.collect.ensures.host, vain_same c.args.host.now.seat.me.0 c.collect.new.host.seat.me.0 c.args.context.now.board.now.capacity c.in-None.ensures.collected)

pub returns-in-None-clause-serving : goal.returns-in-None-clause-serving
returns-in-None-clause-serving g c = λ roots first places hands out handed s. (
  looked_in_vain c.args.graph.now c.args.round.now c.args.host.now.seat.me.0 c.collect.new.host.seat.me.0 c.args.context.now.board.now.capacity c.in-None.ensures.collected roots first places hands out handed s,
  λ e. absurd (suc-ne-zero 0 (ap bit (sym e))),
)

pub returns-in_ok-take_known-in-Some-clause-host : goal.returns-in_ok-take_known-in-Some-clause-host
returns-in_ok-take_known-in-Some-clause-host g c = (c.collect.ensures.host, collected_same c.args.host.now.seat.me.0 c.collect.new.host.seat.me.0 c.in-Some._place c.in-Some.turned c.in-Some.ensures.collected.1)

pub returns-in_ok-take_known-in-Some-clause-serving : goal.returns-in_ok-take_known-in-Some-clause-serving
returns-in_ok-take_known-in-Some-clause-serving g c = λ roots first places hands out handed s.
    let o = c.in_ok-take_known-in-Some.ensures in
    let t = taken c.args.graph.now c.take_known.new.graph c.args.round.now c.take_known.new.self c.args.host.now.seat.me.0 c.collect.new.host.seat.me.0 c.in-Some._place c.in-Some.turned
    o.beside o.others o.back o.made c.in-Some.ensures.collected.1 roots first places hands out handed s in (t.0, λ _. t.1)

pub returns-in_ok-take_known-in-Some-clause-truth : goal.returns-in_ok-take_known-in-Some-clause-truth
returns-in_ok-take_known-in-Some-clause-truth g c = record {
  well = λ roots entry since laws past h. let t = since laws past h in (Back c.in-Some.turned.asked.key ∷ t.0, c.in_ok-take_known-in-Some.ensures.truth laws past t.0 t.1);
  stopped = tt;
}
