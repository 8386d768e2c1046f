use Rattle.std.proofs.Common.{◌≡◌, ◌+◌, take}
use Rattle.std.specs.List.{sum_by}
use Rattle.values_heap.specs.View.{store_of}
use Rattle.evaluator_package_calls.specs.Charges.{argument_bytes}
use Rattle.evaluator_package_calls.proofs.charging.charge_arguments.Given as goal

abbrev pub invariant-loop-x : goal.invariant-loop-x
invariant-loop-x l = record {
  same : store_of l.heap ≡ store_of l.fn.heap;
  charged : l.heap.held ≡ l.fn.heap.held + sum_by (argument_bytes l.prefix (store_of l.fn.heap)) (take l.x-index l.values);
}
