use Rattle.std.proofs.Common.{◌≡◌, ◌++◌, drop}
use Rattle.std.specs.Prelude.{filter}
use Rattle.functions_directories.specs.Globs.{enters}
use Rattle.functions_directories.proofs.glob_pattern.all_entered.Given as goal

abbrev pub invariant-loop-name : goal.invariant-loop-name
invariant-loop-name l = l.all.items ++ filter (enters l.pattern) (drop l.name-index l.names) ≡ filter (enters l.pattern) l.names
