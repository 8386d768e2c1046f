use Rattle.std.proofs.Common.{◌≡◌, ◌++◌, drop}
use Rattle.evaluator_package_calls.specs.GlobResults.{kept_unless}
use Rattle.pattern_tables.specs.Excluding.{is_excluded}
use Rattle.evaluator_package_calls.proofs.answering.add_paths.Given as goal

abbrev pub invariant-loop-path : goal.invariant-loop-path
invariant-loop-path l = l.all.items ++ kept_unless (is_excluded l.excludes) (drop l.path-index l.paths) ≡ l.fn.all.items ++ kept_unless (is_excluded l.excludes) l.paths
