use Rattle.std.proofs.Common.{◌≡◌, ◌++◌, drop}
use Rattle.functions_directories.specs.Globs.{lookups}
use Rattle.functions_directories.proofs.glob_node.lookups.Given as goal

abbrev pub invariant-loop-name : goal.invariant-loop-name
invariant-loop-name l = l.group.items ++ lookups l.directory (drop l.name-index l.names) ≡ lookups l.directory l.names
