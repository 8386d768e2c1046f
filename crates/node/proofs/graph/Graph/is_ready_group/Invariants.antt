use Rattle.std.proofs.Common.{◌≡◌, drop}
use Rattle.node.specs.Graphs.{record_at}
use Rattle.node.specs.Writes.{is_ready_group}
use Rattle.node.proofs.graph.Graph.is_ready_group.Given as goal

-- the members so far are ready
abbrev pub invariant-loop-member : goal.invariant-loop-member
invariant-loop-member l = is_ready_group (record_at l.self) l.key l.group ≡ is_ready_group (record_at l.self) l.key (drop l.member-index l.group)
