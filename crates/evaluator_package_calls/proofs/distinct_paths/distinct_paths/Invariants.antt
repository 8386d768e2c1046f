use Rattle.std.proofs.Common.{take}
use Rattle.evaluator_package_calls.specs.AnswerTables.{HasTexts}
use Rattle.evaluator_package_calls.specs.GlobResults.{kept_unless, found_all}
use Rattle.evaluator_package_calls.specs.SameTexts.{HasSame}
use Rattle.pattern_tables.specs.Excluding.{is_excluded}
use Rattle.evaluator_package_calls.proofs.distinct_paths.distinct_paths.Given as goal

abbrev pub invariant-asking : goal.invariant-asking
invariant-asking l = record {
  asked : HasTexts l.asked (take l.question-index l.questions);
  same : HasSame l.found.all.items (kept_unless (is_excluded l.excludes) (found_all l.answers (take l.question-index l.questions)));
}
