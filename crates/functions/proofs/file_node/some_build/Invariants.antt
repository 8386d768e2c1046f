use Rattle.std.proofs.Common.{◌≡◌, drop}
use Rattle.std.specs.List.{list_any}
use Rattle.keys.specs.Turns.{values}
use Rattle.functions_directories.specs.Globs.{has_build}
use Rattle.functions.proofs.file_node.some_build.Given as goal

abbrev pub invariant-loop-look : goal.invariant-loop-look
invariant-loop-look l = list_any has_build (values (drop l.look-index l.looks)) ≡ list_any has_build (values l.looks)
