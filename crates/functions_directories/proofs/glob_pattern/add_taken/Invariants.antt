use Rattle.std.proofs.Common.{◌≡◌, ◌++◌, drop}
use Rattle.std.specs.Prelude.{filter}
use Rattle.functions_directories.specs.Globs.{takes}
use Rattle.functions_directories.proofs.glob_pattern.add_taken.Given as goal

abbrev pub invariant-loop-name : goal.invariant-loop-name
invariant-loop-name l = l.all.items ++ filter (takes l.pattern) (drop l.name-index l.names) ≡ l.fn.all.items ++ filter (takes l.pattern) l.names
