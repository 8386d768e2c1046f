use Rattle.std.proofs.Common.{◌+◌, ◌≤◌, take, vec_len}
use Rattle.node_table.specs.Flats.{members_in}
use Rattle.node.specs.Records.{cleans, numbers_with}
use Rattle.node.specs.Marks.{HasReachedSome, HasReachedAll, Lists}
use Rattle.node.proofs.marks.dirty_rdeps.Given as goal

abbrev pub invariant-loop-at : goal.invariant-loop-at
invariant-loop-at l = record {
  some : HasReachedSome l.fn.records l.records (members_in l.fn.records l.fn.marked.items) (members_in l.records l.marked.items) (members_in l.fn.records (numbers_with l.fn.records l.number));
  all : HasReachedAll l.records (members_in l.fn.records (take l.at (numbers_with l.fn.records l.number)));
  work : cleans l.records + vec_len l.marked ≤ cleans l.fn.records + vec_len l.fn.marked;
  lists : Lists l.fn.records l.fn.marked.items l.marked.items;
}
