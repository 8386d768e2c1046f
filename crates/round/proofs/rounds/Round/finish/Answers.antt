use Rattle.std.proofs.Common.{subst, sym}
use Rattle.engine_semantics.specs.Value.{In}
use Rattle.round.specs.Rounds.{round_view}
use Rattle.round.proofs.Following.{settled_stalls}
use Rattle.round.proofs.rounds.Round.finish.Goals as goal

pub returns-clause-stalled : goal.returns-clause-stalled
returns-clause-stalled g c = λ read graph beside next laws past cs roots t f.
    settled_stalls next read laws past cs graph (round_view c.args.self) beside.0 roots t f.out (λ k i. c.any_open.ensures.none c.if-any_open.false k (subst (In k) (sym c.as_slice.ensures.value) i))
