use Rattle.std.proofs.Common.{ap, sym, ◌∙◌}
use Rattle.std.specs.HashMap.{get}
use Rattle.values_semantics.specs.Comparing.{same_text}
use Rattle.evaluator_package_calls.specs.AnswerTables.{answer_of, answers_of, place_of}
use Rattle.evaluator_package_calls.specs.declared.answers.Places.{Places}
use Rattle.evaluator_package_calls.proofs.AnswerTables.{table_more, answers_more, as_many, is_same}
use Rattle.evaluator_package_calls.proofs.answers.Answers.add.Goals as goal

pub invariant_of-self-2 : goal.invariant_of-self-2
invariant_of-self-2 c = λ t e x.
    let results = c.self.inside.results.items in
    let before = c.in-Some.table in
    let after = c.in_ok-table.table in
    ap (λ (s : Places). get same_text s.places x) (sym (is_same e))
    ∙ table_more x c.in_ok-question.question (answers_of results) (answer_of c.args.answer) c.len-place.result (get same_text after.places x) (get same_text before.places x) (c.len-place.ensures ∙ c.self.inside.results.ok.0 ∙ sym (as_many results)) c.in_ok-question.ensures (c.self.invariant before (sym c.in-Some.ensures.value) x) (c.in_ok-table.ensures x)
    ∙ ap (place_of x) (sym (answers_more results c.args.answer) ∙ ap answers_of (sym c.in_ok-push-2.ensures.items))
