use Rattle.std.proofs.Common.{◌≡◌, ◌++◌, drop}
use Rattle.keys.specs.Turns.{values}
use Rattle.functions_directories.specs.Globs.{found_below}
use Rattle.functions_directories.proofs.glob_node.add_below.Given as goal

abbrev pub invariant-loop-i : goal.invariant-loop-i
invariant-loop-i l = l.all.items ++ found_below (drop l.i l.names) (drop l.i (values l.answers)) ≡ l.fn.all.items ++ found_below l.names (values l.answers)
