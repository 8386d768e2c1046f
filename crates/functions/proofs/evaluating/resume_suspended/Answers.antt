use Rattle.std.proofs.Common.{ap, ◌∙◌, map, subst}
use Rattle.evaluator.specs.Files.{shared_texts}
use Rattle.keys.specs.Turns.{values}
use Rattle.functions.specs.GlobAnswers.{Gives}
use Rattle.functions.specs.Sources.{glob_group}
use Rattle.functions.proofs.Waits.{asks_again, goes_on_by}
use Rattle.functions.proofs.evaluating.resume_suspended.Goals as goal

pub returns-in-Ok-TooFew-clause-went : goal.returns-in-Ok-TooFew-clause-went
returns-in-Ok-TooFew-clause-went c = λ w.
    let heard = rw c.in-Ok-TooFew.field-0-is at c.in-Ok-TooFew.ensures in
    asks_again c.args.paused w c.in-Ok-TooFew.group.items (heard.1 ∙ ap (glob_group c.args.paused.package_name) c.patterns-patterns.ensures) (values c.args.answers.now) heard.0

pub returns-in_ok-resume-in-Ok-Paths-clause-went : goal.returns-in_ok-resume-in-Ok-Paths-clause-went
returns-in_ok-resume-in-Ok-Paths-clause-went c = λ w.
    let paths = map shared_texts c.in-Ok-Paths.paths.items in
    let answers = values c.args.answers.now in
    let gives = subst (λ patterns. Gives c.args.paused.package_name patterns answers paths c.in-Ok-Paths.count) c.patterns-patterns.ensures (rw c.in-Ok-Paths.field-0-is at c.in-Ok-Paths.ensures) in
    goes_on_by c.args.paused w answers c.in-Ok-Paths.count paths c.in_ok-resume-in-Ok-Paths.field-0 gives (rw c.in_ok-resume-in-Ok-Paths.was at c.resume.ensures)
