use Rattle.std.proofs.Common.{◌-◌, ◌++◌, length, take, drop, ◌∙◌, ap, sym}
use Rattle.keys.specs.Turns.{values}
use Rattle.functions.specs.Goes.{turn_after_answers, env_in, Follows, IsMade, LeadsTo}
use Rattle.functions.proofs.Further.{carried}
use Rattle.functions.proofs.SourceSteps.{weaken, rest_values}
use Rattle.functions.proofs.evaluating.resume_with.Goals as goal

pub returns : goal.returns
returns c =
    let env = env_in c.args.paused in
    let answers = c.args.answers.now in
    let n = c.in-Running.taken in
    let behind = values (take (length answers - n) (drop n answers)) in
    let on = rw c.in-Running.is at (c.in_ok-reply.ensures.went c.requires) in
    let goes : Follows (turn_after_answers env) (values answers) (turn_after_answers on.given) behind = λ more. on.goes more ∙ ap (λ l. turn_after_answers on.given (l ++ more)) (rest_values answers n) in
    weaken (LeadsTo c.in_ok-package_name.package_name c.in-Running.next behind) (IsMade (turn_after_answers env) (values answers)) c.answer_globs.result
    (λ reply h. carried (turn_after_answers env) (values answers) (turn_after_answers on.given) behind goes reply (h on.given (on.named ∙ c.requires.named ∙ sym c.in_ok-package_name.ensures) on.is))
    c.answer_globs.ensures
