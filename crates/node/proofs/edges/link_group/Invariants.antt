use Rattle.std.proofs.Common.{take}
use Rattle.engine_semantics.specs.Value.{In}
use Rattle.node.specs.Records.{KeepsRecords, numbers_of}
use Rattle.node.specs.Edges.{HasLinkedSome, HasLinkedAll}
use Rattle.node.proofs.edges.link_group.Given as goal

abbrev pub invariant-loop-member : goal.invariant-loop-member
invariant-loop-member l = record {
  some : HasLinkedSome (numbers_of l.fn.records) (numbers_of l.records) l.user (λ j. In j l.group);
  all : HasLinkedAll (numbers_of l.records) l.user (λ j. In j (take l.member-index l.group));
  same : KeepsRecords l.fn.records l.records;
}
