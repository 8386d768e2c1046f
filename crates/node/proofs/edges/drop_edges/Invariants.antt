use Rattle.std.proofs.Common.{◌≡◌, Some, take}
use Rattle.engine_semantics.specs.Value.{IsMember}
use Rattle.keys.specs.declared.key.Key.{Key}
use Rattle.node_table.specs.Tables.{key_at}
use Rattle.node.specs.Records.{KeepsRecords, items_of, numbers_of}
use Rattle.node.specs.Writes.{groups_at}
use Rattle.node.specs.Graphs.{records_of}
use Rattle.node.specs.Edges.{HasCut}
use Rattle.node.proofs.edges.drop_edges.Given as goal

abbrev pub invariant-loop-group : goal.invariant-loop-group
invariant-loop-group l = record {
  cut : (k : Key) → key_at l.fn.records l.user ≡ Some k → HasCut (numbers_of l.fn.records) (numbers_of l.records) l.user (λ j. IsMember j (items_of (take l.group-index l.groups))) (λ j. IsMember j (groups_at (records_of l.fn.records k)));
  same : KeepsRecords l.fn.records l.records;
}
