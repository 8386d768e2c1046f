use Rattle.std.proofs.Common.{◌≡◌, ◌++◌, drop}
use Rattle.functions_directories.specs.Turns.{keys_below}
use Rattle.functions_directories.proofs.names_node.keys_below.Given as goal

abbrev pub invariant-loop-name : goal.invariant-loop-name
invariant-loop-name l = l.group.items ++ keys_below l.directory (drop l.name-index l.names) ≡ keys_below l.directory l.names
