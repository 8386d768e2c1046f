use Rattle.std.proofs.Common.{refl, sym, subst}
use Rattle.keys.specs.Turns.{values}
use Rattle.functions.specs.declared.reply.FileTurn.TheVariants as reply
use Rattle.functions.specs.Goes.{IsMade}
use Rattle.functions.specs.NodeStates.{HoldsFrom}
use Rattle.functions.specs.Next.{next}
use Rattle.functions.proofs.HeldTurns.{asks_plainly, asks_holding}
use Rattle.functions.proofs.loading.LoadingRules.turn.Goals as goal

pub reply_of-requires : goal.reply_of-requires
reply_of-requires c = subst (λ k. HoldsFrom c.args.state.resume_point k (values c.args.answers.now)) (sym c.requires.1.0) c.requires.1.1

pub returns-in-Ask-clause-is_next : goal.returns-in-Ask-clause-is_next
returns-in-Ask-clause-is_next c = λ key f.
    let answers = c.args.answers.now in
    let group = c.in-Ask.group in
    asks_plainly key c.args.state.key answers f.0 group (subst (λ k. IsMade (next k) (values answers) (reply.Ask group)) f.0 (rw c.in-Ask.is at c.in_ok-group.ensures))

pub returns-in_ok-new-in-Wait-clause-is_next : goal.returns-in_ok-new-in-Wait-clause-is_next
returns-in_ok-new-in-Wait-clause-is_next c = λ key f.
    let answers = c.args.answers.now in
    let group = c.in-Wait.group in
    let continuation = c.in-Wait.continuation in
    let held = c.in_ok-new-in-Wait.field-0 in
    asks_holding key c.args.state.key answers f.0 group continuation _ held c.in_ok-new-in-Wait.ensures.ok refl (subst (λ k. IsMade (next k) (values answers) (reply.Wait group continuation)) f.0 (rw c.in-Wait.is at c.in_ok-group.ensures))

pub returns-in-Done-clause-is_next : goal.returns-in-Done-clause-is_next
returns-in-Done-clause-is_next c = λ key f.
    let answers = c.args.answers.now in
    subst (λ k. IsMade (next k) (values answers) (reply.Done c.in-Done.value)) f.0 (rw c.in-Done.is at c.in_ok-group.ensures)
