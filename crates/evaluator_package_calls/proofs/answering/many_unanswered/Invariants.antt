use Rattle.std.proofs.Common.{◌≡◌, ◌++◌, [], drop, reverse}
use Rattle.evaluator_semantics.specs.Globs.{queries_without_result}
use Rattle.evaluator_package_calls.proofs.answering.many_unanswered.Given as goal

abbrev pub invariant-asking : goal.invariant-asking
invariant-asking l = l.once.all.items ++ queries_without_result l.answers (reverse l.once.all.items) (drop l.question-index l.questions) ≡ queries_without_result l.answers [] l.questions
