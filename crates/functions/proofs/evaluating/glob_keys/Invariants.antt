use Rattle.std.proofs.Common.{◌≡◌, ◌++◌, drop}
use Rattle.functions.specs.Sources.{glob_keys}
use Rattle.functions.proofs.evaluating.glob_keys.Given as goal

abbrev pub invariant-loop-pattern : goal.invariant-loop-pattern
invariant-loop-pattern l = l.keys.items ++ glob_keys l.package_name (drop l.pattern-index l.patterns) ≡ glob_keys l.package_name l.patterns
