use Rattle.std.proofs.Common.{take}
use Rattle.engine_semantics.specs.Value.{IsMember}
use Rattle.node.specs.Records.{KeepsRecords, items_of, numbers_of}
use Rattle.node.specs.Edges.{HasLinkedSome, HasLinkedAll}
use Rattle.node.proofs.edges.link_groups.Given as goal

abbrev pub invariant-loop-group : goal.invariant-loop-group
invariant-loop-group l = record {
  some : HasLinkedSome (numbers_of l.fn.records) (numbers_of l.records) l.user (λ j. IsMember j (items_of l.groups));
  all : HasLinkedAll (numbers_of l.records) l.user (λ j. IsMember j (items_of (take l.group-index l.groups)));
  same : KeepsRecords l.fn.records l.records;
}
