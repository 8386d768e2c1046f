use Rattle.std.proofs.Common.{◌≡◌, ◌+◌, take}
use Rattle.std.specs.List.{sum_by}
use Rattle.values_heap.specs.View.{store_of}
use Rattle.evaluator_package_calls.specs.Charges.{member_bytes, list_members}
use Rattle.evaluator_package_calls.proofs.charging.charge_list.Given as goal

abbrev pub invariant-loop-i : goal.invariant-loop-i
invariant-loop-i l = record {
  same : store_of l.heap ≡ store_of l.fn.heap;
  charged : l.heap.held ≡ l.fn.heap.held + sum_by (member_bytes l.prefix (store_of l.fn.heap)) (take l.i (list_members l.place (store_of l.fn.heap)));
}
