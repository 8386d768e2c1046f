use Rattle.std.proofs.Common.{◌≡◌, ◌+◌}
use Rattle.std.specs.Prelude.{sum_by}
use Rattle.node.specs.Counts.{size, kept_edges}
use Rattle.node.proofs.counts.edges.Given as goal

-- the members so far, and those of the records that are left
abbrev pub invariant-loop-kept : goal.invariant-loop-kept
invariant-loop-kept l = l.count + sum_by size l.kept-iterator ≡ kept_edges l.records
