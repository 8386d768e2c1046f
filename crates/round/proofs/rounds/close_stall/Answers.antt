use Rattle.std.proofs.Common.{◌∙◌, refl, sym, ap, subst, List}
use Rattle.engine_semantics.specs.Value.{In}
use Rattle.node.proofs.Lists.{on_err}
use Rattle.round_nodes.specs.TurnCounts.{turns_of}
use Rattle.round_nodes.specs.declared.run.Run.{Run}
use Rattle.round.specs.Call.{IsCall}
use Rattle.round.proofs.Resting.{call_ends, ends_made}
use Rattle.round.proofs.rounds.close_stall.Goals as goal

pub returns-in_err-close_cycles-clause-stopped : goal.returns-in_err-close_cycles-clause-stopped
returns-in_err-close_cycles-clause-stopped g c = on_err c.from_residual.result (λ read next laws past cs t. c.in_err-close_cycles.ensures.truth read next laws past cs t)

pub returns-clause-made : goal.returns-clause-made
returns-clause-made g c = λ made h.
    ends_made c.close_cycles.new.self.table made c.in_ok-close_cycles.ensures.none (c.in_ok-close_cycles.ensures.turns made h) ∙ ap turns_of (sym c.in-Ok.ensures.done.0)

pub returns-clause-law : goal.returns-clause-law
returns-clause-law g c = λ read next laws past cs e t.
    subst (λ (xs : List Run). IsCall next read past c.close_cycles.new.graph xs) (sym c.in-Ok.ensures.done.0)
    (call_ends next read laws past c.close_cycles.new.graph c.close_cycles.new.self.table c.in_ok-close_cycles.ensures.none past.roots refl
    (λ k i. c.in_ok-close_cycles.ensures.wanted k (subst (In k) (e ∙ sym c.in_ok-close_cycles.ensures.same.0) i))
    (c.in_ok-close_cycles.ensures.truth read next laws past cs t))
