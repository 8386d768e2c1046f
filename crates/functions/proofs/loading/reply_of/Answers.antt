use Rattle.std.proofs.Common.{drop, sym, subst, IfOk}
use Rattle.keys.specs.Turns.{values}
use Rattle.functions.specs.Goes.{table_of, IsMade}
use Rattle.functions.specs.NodeStates.{IsHeld}
use Rattle.functions.specs.Next.{next}
use Rattle.functions.proofs.Further.{carried_on}
use Rattle.functions.proofs.HeldTurns.{held_on}
use Rattle.functions.proofs.SourceSteps.{rest_values}
use Rattle.functions.proofs.loading.reply_of.Goals as goal

pub returns-in-Some : goal.returns-in-Some
returns-in-Some c =
    let held = c.into_inner-taken.result in
    let key = c.args.key.now in
    let answers = c.args.answers.now in
    let table = table_of held.continuation in
    let holds : IsHeld held key (values answers) = rw c.into_inner-taken.ensures (rw c.in-Some.is at c.requires) in
    carried_on (next key) (values answers) table (drop held.taken (values answers)) (held_on held key (values answers) holds) c.resume_node.result
    (subst (λ l. IfOk c.resume_node.result (IsMade table l)) (sym (rest_values answers held.taken)) c.resume_node.ensures)
