use Rattle.std.proofs.Common.{take}
use Rattle.keys.specs.declared.key.Key.{Key}
use Rattle.engine_semantics.specs.Value.{In}
use Rattle.node.specs.Graphs.{record_at}
use Rattle.round_nodes.specs.Nodes.{IsPlain}
use Rattle.round_nodes.proofs.members.first_stop.Given as goal

abbrev pub invariant-loop-key : goal.invariant-loop-key
invariant-loop-key l = (j : Key) → In j (take l.key-index l.group) → IsPlain (record_at l.graph) j
