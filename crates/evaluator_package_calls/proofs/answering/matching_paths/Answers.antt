use Rattle.std.proofs.Common.{refl}
use Rattle.pattern_tables.specs.Excluding.{is_excluded}
use Rattle.evaluator_package_calls.proofs.Gathering.{gathered_step}
use Rattle.evaluator_package_calls.proofs.answering.matching_paths.Goals as goal

pub loop-question-preserved : goal.loop-question-preserved
loop-question-preserved c = gathered_step c.args.answers.now (is_excluded c.args.excludes.now) c.args.questions.now c.loop-question.question-index c.question-item.result c.question-item.result c.loop-question.all.items _ _ c.loop-question-test.true c.question-item.is refl c.in_ok-add_found.ensures c.loop-question.invariant
