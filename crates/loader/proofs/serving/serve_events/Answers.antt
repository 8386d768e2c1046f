use Rattle.std.proofs.Common.{inl, inr}
use Rattle.loader.proofs.Steps.{served_stopped}
use Rattle.loader.proofs.serving.serve_events.Goals as goal

pub returns-then-options-clause-stopped : goal.returns-then-options-clause-stopped
returns-then-options-clause-stopped g c = λ three.
    elim c.serve_to-status.ensures.status [ inl zero ↦ served_stopped (c.serve_to-status.ensures.served zero).1 (c.serve_to-status.ensures.ended zero) | inr stop ↦ c.serve_to-status.ensures.stopped stop ]
