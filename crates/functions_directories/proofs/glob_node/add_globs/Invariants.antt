use Rattle.std.proofs.Common.{◌≡◌, ◌++◌, drop}
use Rattle.functions_directories.specs.Globs.{globs_below}
use Rattle.functions_directories.proofs.glob_node.add_globs.Given as goal

abbrev pub invariant-loop-name : goal.invariant-loop-name
invariant-loop-name l =
    l.group.items ++ globs_below l.search.directory.now l.search.directories l.pattern (drop l.name-index l.names)
    ≡ l.fn.group.items ++ globs_below l.search.directory.now l.search.directories l.pattern l.names
