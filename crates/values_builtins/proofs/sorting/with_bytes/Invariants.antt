use Rattle.std.proofs.Common.{◌≡◌, ◌++◌, drop, map}
use Rattle.values_heap.specs.View.{store_of}
use Rattle.values_builtins.specs.Ranks.{with_bytes}
use Rattle.values_builtins.proofs.sorting.with_bytes.Given as goal

abbrev pub invariant-loop-x : goal.invariant-loop-x
invariant-loop-x l = l.all.items ++ map (with_bytes (store_of l.heap)) (drop l.x-index l.members) ≡ map (with_bytes (store_of l.heap)) l.members
