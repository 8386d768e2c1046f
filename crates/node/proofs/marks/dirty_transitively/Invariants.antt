use Rattle.std.proofs.Common.{◌≤◌, ◌+◌, ◌-◌, take, length, vec_len}
use Rattle.node_table.specs.Flats.{members_in}
use Rattle.node.specs.Records.{cleans, users_of}
use Rattle.node.specs.Marks.{HasSpread, HasPassed, Lists}
use Rattle.node.proofs.marks.dirty_transitively.Given as goal

abbrev pub invariant-loop-at : goal.invariant-loop-at
invariant-loop-at l = record {
  spread : HasSpread (users_of l.fn.records) l.fn.records l.records (members_in l.fn.records l.fn.marked.items) (members_in l.records l.marked.items);
  passed : HasPassed (users_of l.fn.records) l.records (members_in l.records (take l.at l.marked.items));
  within : l.at ≤ length l.marked.items;
  lists : Lists l.fn.records l.fn.marked.items l.marked.items;
}

abbrev pub decreases-loop-at : goal.decreases-loop-at
decreases-loop-at l = cleans l.records + (vec_len l.marked - l.at)
