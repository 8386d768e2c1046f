use Rattle.std.proofs.Common.{drop}
use Rattle.keys.specs.declared.key.Key.{Key}
use Rattle.engine_semantics.specs.Value.{In}
use Rattle.node.specs.Graphs.{record_at}
use Rattle.round_nodes.specs.Nodes.{IsClean}
use Rattle.round_nodes.proofs.members.last_unsettled.Given as goal

abbrev pub invariant-loop-i : goal.invariant-loop-i
invariant-loop-i l = (j : Key) → In j (drop l.i l.keys) → IsClean (record_at l.graph) j
