use Rattle.std.proofs.Common.{◌≡◌, ◌≤◌}
use Rattle.values_heap.specs.View.{store_of}
use Rattle.values_heap.proofs.heap.Heap.sweep.Given as goal

abbrev pub invariant-loop-i : goal.invariant-loop-i
invariant-loop-i l = (store_of l.self ≡ store_of l.fn.self) × (l.self.held ≤ l.fn.self.held)
