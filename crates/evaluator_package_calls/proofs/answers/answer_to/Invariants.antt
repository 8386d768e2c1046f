use Rattle.std.proofs.Common.{◌≡◌, drop}
use Rattle.evaluator_semantics.specs.Globs.{answer_to}
use Rattle.evaluator_package_calls.specs.AnswerTables.{answers_of}
use Rattle.evaluator_package_calls.proofs.answers.answer_to.Given as goal

abbrev pub invariant-loop-answer : goal.invariant-loop-answer
invariant-loop-answer l = answer_to l.question (answers_of (drop l.answer-index l.results)) ≡ answer_to l.question (answers_of l.results)
