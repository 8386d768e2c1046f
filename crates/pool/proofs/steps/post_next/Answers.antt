use Rattle.std.proofs.Common.{◌∷◌, sym, subst, Some}
use Rattle.engine_semantics.specs.Choices.{Hand, Back}
use Rattle.keys.specs.Jobs.{JobView}
use Rattle.keys.specs.Leaves as leaves
use Rattle.node.proofs.Lists.{on_err}
use Rattle.round.specs.Rounds.{round_view, HandsOut}
use Rattle.pool.proofs.Ends.{not_ok}
use Rattle.pool.proofs.Keeping.{has_room, given, made_here, posted_same}
use Rattle.pool.proofs.steps.post_next.Goals as goal

pub unreachable-requires-in-Err : goal.unreachable-requires-in-Err
unreachable-requires-in-Err g c = has_room c.args.host.now.seat.me.0 c.args.context.now.board.now.capacity c.requires.room.0 c.requires.room.1 c.in-Err.ensures.posted.1

pub returns-in-Ok-clause-host : goal.returns-in-Ok-clause-host
returns-in-Ok-clause-host g c = (c.post.ensures.host, posted_same _ _ c.args.host.now.seat.me.0 c.post.new.host.seat.me.0 c.in-Ok.field-0 c.in-Some-2.job c.in-Ok.ensures.posted.1)

pub returns-in-Ok-clause-serving : goal.returns-in-Ok-clause-serving
returns-in-Ok-clause-serving g c = λ roots. let o = c.in_ok-job.ensures in
    given _ _ c.args.graph.now c.args.round.now c.hand_out.new.self c.args.host.now.seat.me.0 c.post.new.host.seat.me.0 c.in-Ok.field-0 c.in-Some-2.job c.in-Some.key o.beside o.others
    (rw c.in-Some-2.is at o.hands) c.in-Ok.ensures.posted.1 roots c.args.own.now.made

pub returns-in-Ok-clause-truth : goal.returns-in-Ok-clause-truth
returns-in-Ok-clause-truth g c = record {
  well = λ roots entry since laws past h.
      let t = since laws past h in let handed = rw c.in-Some-2.is at c.in_ok-job.ensures.truth (leaves.read c.args.context.now.tree.now) in
      (Hand c.in-Some.key ∷ t.0, handed g.R.Rules.next laws past t.0 t.1);
  stopped = tt;
}

pub returns-in_err-take_known-clause-truth : goal.returns-in_err-take_known-clause-truth
returns-in_err-take_known-clause-truth g c =
    let handed = rw c.in-Some-2.is at c.in_ok-job.ensures.truth (leaves.read c.args.context.now.tree.now) in record {
      well = not_ok _ c.from_residual-in_err-take_known.result c.from_residual-in_err-take_known.ensures.0;
      stopped = on_err c.from_residual-in_err-take_known.result
          (λ roots entry since laws past h. let t = since laws past h in c.in_err-take_known.ensures.truth laws past (Hand c.in-Some.key ∷ t.0) (handed g.R.Rules.next laws past t.0 t.1));
    }

pub returns-clause-serving : goal.returns-clause-serving
returns-clause-serving g c = λ roots. let o = c.in_ok-job.ensures in let t = c.in_ok-take_known.ensures in
    made_here c.args.graph.now c.take_known.new.graph c.args.round.now c.hand_out.new.self c.take_known.new.self c.args.host.now.seat.me.0 c.make-turned.result.asked c.in-Some.key
    (subst (λ (j : JobView). HandsOut c.args.graph.now c.in-Some.key (round_view c.args.round.now) (round_view c.hand_out.new.self) (Some j)) (sym c.make-turned.ensures.same) (rw c.in-Some-2.is at o.hands))
    o.others t.beside t.others t.back roots c.args.own.now.made

pub returns-clause-truth : goal.returns-clause-truth
returns-clause-truth g c = record {
  well = λ roots entry since laws past h.
      let t = since laws past h in let handed = rw c.in-Some-2.is at c.in_ok-job.ensures.truth (leaves.read c.args.context.now.tree.now) in
      (Back c.make-turned.result.asked.key ∷ Hand c.in-Some.key ∷ t.0, c.in_ok-take_known.ensures.truth laws past (Hand c.in-Some.key ∷ t.0) (handed g.R.Rules.next laws past t.0 t.1));
  stopped = tt;
}
