use Rattle.std.proofs.Common.{◌≡◌, drop}
use Rattle.keys.specs.Turns.{values}
use Rattle.functions_directories.specs.Lookups.{first_there}
use Rattle.functions_directories.proofs.lookup_node.first_there.Given as goal

-- none of the answers so far is a file
abbrev pub invariant-loop-i : goal.invariant-loop-i
invariant-loop-i l = first_there l.names (values l.answers) ≡ first_there (drop l.i l.names) (drop l.i (values l.answers))
