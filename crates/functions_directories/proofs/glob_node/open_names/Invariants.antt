use Rattle.std.proofs.Common.{◌≡◌, ◌++◌, drop}
use Rattle.keys.specs.Turns.{values}
use Rattle.functions_directories.specs.Globs.{open_names}
use Rattle.functions_directories.proofs.glob_node.open_names.Given as goal

abbrev pub invariant-loop-i : goal.invariant-loop-i
invariant-loop-i l = l.all.items ++ open_names (drop l.i l.names) (drop l.i (values l.answers)) ≡ open_names l.names (values l.answers)
