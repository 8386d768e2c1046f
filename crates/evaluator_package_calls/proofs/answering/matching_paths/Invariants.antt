use Rattle.std.proofs.Common.{◌≡◌, ◌++◌, drop}
use Rattle.evaluator_package_calls.specs.GlobResults.{kept_unless, found_all}
use Rattle.pattern_tables.specs.Excluding.{is_excluded}
use Rattle.evaluator_package_calls.proofs.answering.matching_paths.Given as goal

abbrev pub invariant-loop-question : goal.invariant-loop-question
invariant-loop-question l = l.all.items ++ kept_unless (is_excluded l.excludes) (found_all l.answers (drop l.question-index l.questions)) ≡ kept_unless (is_excluded l.excludes) (found_all l.answers l.questions)
