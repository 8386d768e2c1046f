use Rattle.round.proofs.Wanting.{leads_to_end_err}
use Rattle.round.proofs.rounds.Round.close_cycles.Goals as goal

pub returns-in_err-close_cycles-clause-truth : goal.returns-in_err-close_cycles-clause-truth
returns-in_err-close_cycles-clause-truth g c = λ read next.
    leads_to_end_err next read c.args.graph.now c.close_cycles.new.graph c.args.self.now.table c.close_cycles.new.table c.from_residual.result c.from_residual.ensures.0
    (λ laws past cs t. c.in_err-close_cycles.ensures.truth read next laws past cs t)

pub returns-clause-wanted : goal.returns-clause-wanted
returns-clause-wanted g c = λ k i. c.in_ok-close_cycles.ensures.keeps k (c.requires.beside.0.wanted k i)
