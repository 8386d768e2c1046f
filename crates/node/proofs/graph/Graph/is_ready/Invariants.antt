use Rattle.std.proofs.Common.{◌≡◌, drop}
use Rattle.node.specs.Graphs.{record_at}
use Rattle.node.specs.Records.{items_of}
use Rattle.node.specs.Writes.{are_ready}
use Rattle.node.proofs.graph.Graph.is_ready.Given as goal

-- the groups so far are ready
abbrev pub invariant-loop-group : goal.invariant-loop-group
invariant-loop-group l = are_ready (record_at l.self) l.key (items_of l.groups) ≡ are_ready (record_at l.self) l.key (items_of (drop l.group-index l.groups))
