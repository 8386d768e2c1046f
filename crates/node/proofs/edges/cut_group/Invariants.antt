use Rattle.std.proofs.Common.{◌≡◌, Some, take}
use Rattle.engine_semantics.specs.Value.{In, IsMember}
use Rattle.keys.specs.declared.key.Key.{Key}
use Rattle.node_table.specs.Tables.{key_at}
use Rattle.node.specs.Records.{KeepsRecords, numbers_of}
use Rattle.node.specs.Writes.{groups_at}
use Rattle.node.specs.Graphs.{records_of}
use Rattle.node.specs.Edges.{HasCut}
use Rattle.node.proofs.edges.cut_group.Given as goal

abbrev pub invariant-loop-member : goal.invariant-loop-member
invariant-loop-member l = record {
  cut : (k : Key) → key_at l.fn.records l.user ≡ Some k → HasCut (numbers_of l.fn.records) (numbers_of l.records) l.user (λ j. In j (take l.member-index l.group)) (λ j. IsMember j (groups_at (records_of l.fn.records k)));
  same : KeepsRecords l.fn.records l.records;
}
