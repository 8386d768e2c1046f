use Rattle.std.proofs.Common.{◌++◌, drop}
use Rattle.evaluator_package_calls.specs.GlobResults.{kept_unless}
use Rattle.evaluator_package_calls.specs.SameTexts.{HasSame}
use Rattle.pattern_tables.specs.Excluding.{is_excluded}
use Rattle.evaluator_package_calls.proofs.distinct_paths.add_each.Given as goal

abbrev pub invariant-adding : goal.invariant-adding
invariant-adding l = HasSame (l.found.all.items ++ kept_unless (is_excluded l.excludes) (drop l.path-index l.paths)) (l.fn.found.all.items ++ kept_unless (is_excluded l.excludes) l.paths)
