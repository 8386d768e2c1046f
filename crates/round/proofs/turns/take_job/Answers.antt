use Rattle.std.proofs.Common.{◌≡◌, ◌∙◌, ◌++◌, IfNone, ap, refl, subst, sym}
use Rattle.std.specs.Prelude.{IsSome}
use Rattle.keys.specs.Jobs.{Waits}
use Rattle.keys.specs.Turns.{values}
use Rattle.node.proofs.Lists.{some_is}
use Rattle.round.specs.NodeStates.{HasState}
use Rattle.round.proofs.Pausing.{written_out}
use Rattle.round.proofs.turns.take_job.Goals as goal

pub unwrap-waiting-requires : goal.unwrap-waiting-requires
unwrap-waiting-requires g c =
    let w = subst (λ l. IfNone l (HasState c.args.kept.now c.args.key)) c.in-None.is c.in_ok-left.ensures.some in
    let u = c.in_ok-left.ensures.answered w.0 w.1 in
    subst (λ o. IsSome o) (sym (c.swap_remove.ensures.value ∙ u.1)) refl

pub returns-in-None-clause-key : goal.returns-in-None-clause-key
returns-in-None-clause-key g c =
    let w = subst (λ l. IfNone l (HasState c.args.kept.now c.args.key)) c.in-None.is c.in_ok-left.ensures.some in
    let u = c.in_ok-left.ensures.answered w.0 w.1 in
    let p : c.unwrap-waiting.result ≡ record w.0 { answers = w.0.answers ++ values c.args.found.items } = some_is (sym c.unwrap-waiting.ensures ∙ c.swap_remove.ensures.value ∙ u.1) in
    c.into_job.ensures.key ∙ ap (λ (x : Waits). x.key) p ∙ c.requires w.0 w.1

pub returns-in-None-clause-taken : goal.returns-in-None-clause-taken
returns-in-None-clause-taken g c =
    let w = subst (λ l. IfNone l (HasState c.args.kept.now c.args.key)) c.in-None.is c.in_ok-left.ensures.some in
    let u = c.in_ok-left.ensures.answered w.0 w.1 in
    written_out c.args.kept.now c.answer_kept.new.kept c.swap_remove.new.self c.args.key _ u c.swap_remove.ensures.updates
