use Rattle.std.proofs.Common.{ap, ◌∙◌}
use Rattle.evaluator_semantics.specs.Globs.{answer_to}
use Rattle.evaluator_package_calls.specs.AnswerTables.{answers_of, paths_at}
use Rattle.evaluator_package_calls.proofs.AnswerTables.{place_finds}
use Rattle.evaluator_package_calls.proofs.answers.Answers.answer.Goals as goal

pub returns-in-Some : goal.returns-in-Some
returns-in-Some c =
    let answers = answers_of c.self.inside.results.items in
    let question = c.args.question.now in
    c.paths_at.ensures
    ∙ ap (λ l. paths_at (answers_of l) c.copied.result) c.as_slice-results.ensures.value
    ∙ ap (paths_at answers) (c.copied.ensures ∙ c.get.ensures.value ∙ c.self.invariant c.in-Some.table c.in-Some.is question)
    ∙ place_finds question answers
    ∙ ap (answer_to question) c.self.view_is
