use Rattle.std.proofs.Common.{take}
use Rattle.node_table.specs.Flats.{members_in}
use Rattle.node.specs.Marks.{HasReachedSome, HasReachedAll, Lists}
use Rattle.node.proofs.marks.dirty_leaves.Given as goal

abbrev pub invariant-loop-leaf : goal.invariant-loop-leaf
invariant-loop-leaf l = record {
  some : HasReachedSome l.fn.records l.records (members_in l.fn.records l.fn.marked.items) (members_in l.records l.marked.items) l.leaves;
  all : HasReachedAll l.records (take l.leaf-index l.leaves);
  lists : Lists l.fn.records l.fn.marked.items l.marked.items;
}
