use Rattle.evaluator.proofs.outcome.Suspended.into_parts.Goals as goal

pub returns-clause-stands : goal.returns-clause-stands
returns-clause-stands c = rw c.into_inner.ensures c.self.invariant.0.stands
