use Rattle.std.proofs.Common.{◌≡◌, ◌++◌, drop}
use Rattle.keys.specs.EditLeaves.{touched_leaves}
use Rattle.node.specs.Graphs.{paths_seen}
use Rattle.node.proofs.marks.touched_leaves.Given as goal

-- the leaves so far, and those of the paths that are left
abbrev pub invariant-loop-path : goal.invariant-loop-path
invariant-loop-path l = l.all.items ++ touched_leaves (paths_seen (drop l.path-index l.paths)) ≡ touched_leaves (paths_seen l.paths)
