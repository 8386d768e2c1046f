use Rattle.round.specs.Frames.{KeepsOthersBut}
use Rattle.round.specs.NodeStates.{IsPaused}
use Rattle.round.proofs.Pausing.{asked_paused}
use Rattle.round.proofs.Wanting.{leads_err}
use Rattle.round.proofs.Framing.{frame_asked, out_no_turn}
use Rattle.std.proofs.Common.{[], ◌∷◌, ◌∙◌, sym, ap, subst}
use Rattle.engine_semantics.specs.Choices.{Back}
use Rattle.round_nodes.specs.Invariants.{IsTrueOf}
use Rattle.keys.specs.declared.key.Key.{Key}
use Rattle.engine_semantics.specs.Reply.{Ask}
use Rattle.round.specs.Turning.{IsOutWith, ComesBack}
use Rattle.round.proofs.Handing.{asked_whole, asked_keeps, asked_back, asked_turns, asked_true}
use Rattle.round.proofs.turns.accept_turn.Goals as goal

pub returns-in_ok-finish_node-in-Done-clause-truth : goal.returns-in_ok-finish_node-in-Done-clause-truth
returns-in_ok-finish_node-in-Done-clause-truth g c = λ read.
    let step = rw c.in-Done.is at c.in_ok-key.ensures.step in
    λ laws past cs t. subst (λ (k : Key). IsTrueOf g.R.Rules.next read past (Back k ∷ cs) c.finish_node.new.graph c.finish_node.new.table.nodes c.finish_node.new.table.runs.items) step.0
    (c.in_ok-finish_node-in-Done.ensures.truth read g.R.Rules.next c.args.turned.asked.answers
    (subst (λ (k : Key). IsOutWith c.args.graph.now c.args.table.now k c.args.turned.asked.answers) (sym step.0) c.requires.out)
    (ap (λ (k : Key). g.R.Rules.next k c.args.turned.asked.answers) step.0 ∙ step.1) laws past cs t)

pub returns-in_err-finish_node-in-Done-clause-truth : goal.returns-in_err-finish_node-in-Done-clause-truth
returns-in_err-finish_node-in-Done-clause-truth g c = λ read.
    let step = rw c.in-Done.is at c.in_ok-key.ensures.step in
    leads_err (Back c.args.turned.asked.key ∷ []) g.R.Rules.next read c.args.graph.now c.finish_node.new.graph c.args.table.now c.finish_node.new.table c.from_residual-in_err-finish_node-in-Done.result c.from_residual-in_err-finish_node-in-Done.ensures.0
    (λ laws past cs t. c.in_err-finish_node-in-Done.ensures.truth read g.R.Rules.next c.args.turned.asked.answers
    (subst (λ (k : Key). IsOutWith c.args.graph.now c.args.table.now k c.args.turned.asked.answers) (sym step.0) c.requires.out)
    (ap (λ (k : Key). g.R.Rules.next k c.args.turned.asked.answers) step.0 ∙ step.1) laws past cs t)

pub returns-in_ok-ask_group-in-Paused-clause-whole : goal.returns-in_ok-ask_group-in-Paused-clause-whole
returns-in_ok-ask_group-in-Paused-clause-whole g c =
    let step = rw c.in-Paused.is at c.in_ok-key.ensures.step in
    let same = c.key.ensures ∙ step.0 in
    let o = subst (λ (k : Key). IsOutWith c.args.graph.now c.args.table.now k c.args.turned.asked.answers) (sym same) c.requires.out in
    asked_whole c.args.graph.now c.args.table.now c.ask_group.new.table c.key.result.now c.args.turned.asked.answers o c.requires.whole c.in-Paused.group.items c.in_ok-ask_group-in-Paused.ensures.asked c.in_ok-ask_group-in-Paused.ensures.pends

pub returns-in_ok-ask_group-in-Paused-clause-keeps : goal.returns-in_ok-ask_group-in-Paused-clause-keeps
returns-in_ok-ask_group-in-Paused-clause-keeps g c =
    let step = rw c.in-Paused.is at c.in_ok-key.ensures.step in
    let same = c.key.ensures ∙ step.0 in
    let o = subst (λ (k : Key). IsOutWith c.args.graph.now c.args.table.now k c.args.turned.asked.answers) (sym same) c.requires.out in
    asked_keeps c.args.graph.now c.args.table.now c.ask_group.new.table c.key.result.now c.args.turned.asked.answers o c.requires.whole c.in-Paused.group.items c.in_ok-ask_group-in-Paused.ensures.asked c.in_ok-ask_group-in-Paused.ensures.pends

pub returns-in_ok-ask_group-in-Paused-clause-back : goal.returns-in_ok-ask_group-in-Paused-clause-back
returns-in_ok-ask_group-in-Paused-clause-back g c =
    let step = rw c.in-Paused.is at c.in_ok-key.ensures.step in
    let same = c.key.ensures ∙ step.0 in
    let o = subst (λ (k : Key). IsOutWith c.args.graph.now c.args.table.now k c.args.turned.asked.answers) (sym same) c.requires.out in
    subst (λ (k : Key). ComesBack c.args.table.now c.ask_group.new.table k) same (
      asked_back c.args.graph.now c.args.table.now c.ask_group.new.table c.key.result.now c.args.turned.asked.answers o c.requires.whole c.in-Paused.group.items c.in_ok-ask_group-in-Paused.ensures.asked c.in_ok-ask_group-in-Paused.ensures.pends,
      asked_turns c.args.graph.now c.args.table.now c.ask_group.new.table c.key.result.now c.args.turned.asked.answers o c.requires.whole c.in-Paused.group.items c.in_ok-ask_group-in-Paused.ensures.asked c.in_ok-ask_group-in-Paused.ensures.pends,
    )

pub returns-in_ok-ask_group-in-Paused-clause-truth : goal.returns-in_ok-ask_group-in-Paused-clause-truth
returns-in_ok-ask_group-in-Paused-clause-truth g c = λ read laws past cs t.
    let step = rw c.in-Paused.is at c.in_ok-key.ensures.step in
    let same = c.key.ensures ∙ step.0 in
    let o = subst (λ (k : Key). IsOutWith c.args.graph.now c.args.table.now k c.args.turned.asked.answers) (sym same) c.requires.out in
    subst (λ (k : Key). IsTrueOf g.R.Rules.next read past (Back k ∷ cs) c.args.graph.now c.ask_group.new.table.nodes c.ask_group.new.table.runs.items) same
    (asked_true c.args.graph.now c.args.table.now c.ask_group.new.table c.key.result.now c.args.turned.asked.answers o c.requires.whole c.in-Paused.group.items c.in_ok-ask_group-in-Paused.ensures.asked c.in_ok-ask_group-in-Paused.ensures.pends
    g.R.Rules.next (ap (λ (k : Key). g.R.Rules.next k c.args.turned.asked.answers) same ∙ step.2) read laws past cs t)

pub returns-in_ok-ask_group-in-Paused-clause-frame : goal.returns-in_ok-ask_group-in-Paused-clause-frame
returns-in_ok-ask_group-in-Paused-clause-frame g c =
    let step = rw c.in-Paused.is at c.in_ok-key.ensures.step in
    let same = c.key.ensures ∙ step.0 in
    let o = subst (λ (k : Key). IsOutWith c.args.graph.now c.args.table.now k c.args.turned.asked.answers) (sym same) c.requires.out in
    subst (λ (k : Key). KeepsOthersBut k c.args.graph.now c.args.graph.now c.args.table.now c.ask_group.new.table) same
    (frame_asked c.args.graph.now c.args.table.now c.ask_group.new.table c.key.result.now o.node c.in-Paused.group.items o.there (out_no_turn o.node o.out) c.in_ok-ask_group-in-Paused.ensures.asked)

pub returns-in_ok-ask_group-in-Paused-clause-paused : goal.returns-in_ok-ask_group-in-Paused-clause-paused
returns-in_ok-ask_group-in-Paused-clause-paused g c =
    let step = rw c.in-Paused.is at c.in_ok-key.ensures.step in
    let same = c.key.ensures ∙ step.0 in
    let o = subst (λ (k : Key). IsOutWith c.args.graph.now c.args.table.now k c.args.turned.asked.answers) (sym same) c.requires.out in
    subst (λ (k : Key). IsPaused c.args.graph.now c.ask_group.new.table k c.in-Paused.waiting) same
    (asked_paused c.args.graph.now c.args.table.now c.ask_group.new.table c.key.result.now c.args.turned.asked.answers o c.in-Paused.group.items c.in_ok-ask_group-in-Paused.ensures.asked c.in-Paused.waiting (sym c.key.ensures) step.1)

pub returns-in_ok-finish_node-in-Done-clause-frame : goal.returns-in_ok-finish_node-in-Done-clause-frame
returns-in_ok-finish_node-in-Done-clause-frame g c =
    let step = rw c.in-Done.is at c.in_ok-key.ensures.step in
    subst (λ (k : Key). KeepsOthersBut k c.args.graph.now c.finish_node.new.graph c.args.table.now c.finish_node.new.table) step.0 c.in_ok-finish_node-in-Done.ensures.frame
