use Rattle.std.proofs.Common.{take}
use Rattle.node.specs.Graphs.{record_at}
use Rattle.round_nodes.specs.Members.{IsMissing, HasCycle}
use Rattle.round_nodes.proofs.members.look_at_group.Given as goal

abbrev pub invariant-loop-key : goal.invariant-loop-key
invariant-loop-key l = record {
  missing : IsMissing (record_at l.graph) (take l.key-index l.group) l.missing.items;
  cycle : HasCycle (record_at l.graph) (take l.key-index l.group) l.has_cycle;
}
