use Rattle.node.proofs.Lists.{true_false}
use Rattle.round.specs.Rounds.{round_view}
use Rattle.round.proofs.Choosing.{out_job, job_out}
use Rattle.round.proofs.rounds.Round.take_back.Goals as goal

pub take_known-requires-clause-out : goal.take_known-requires-clause-out
take_known-requires-clause-out g c κs within = c.in_ok-is_out_with.ensures.0 c.if-not-branch.false

pub returns-clause-back : goal.returns-clause-back
returns-clause-back g c = (c.in_ok-is_out_with.ensures.0 c.if-not-branch.false, c.in_ok-take_known.ensures.back, c.in_ok-take_known.ensures.made)

pub returns-clause-possible : goal.returns-clause-possible
returns-clause-possible g c = λ read next laws past cs roots t.
    out_job next read laws past cs c.args.graph.now (round_view c.args.self.now) c.requires.0 roots t c.args.turned.asked (c.in_ok-is_out_with.ensures.0 c.if-not-branch.false)

pub returns-then-not-branch-clause-strange : goal.returns-then-not-branch-clause-strange
returns-then-not-branch-clause-strange g c = λ read next laws past cs roots t x.
    true_false (c.in_ok-is_out_with.ensures.1 (job_out next read laws past cs c.args.graph.now (round_view c.args.self.now) c.requires.0 roots t c.args.turned.asked x)) c.if-not-branch.true
