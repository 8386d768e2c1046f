use Rattle.std.proofs.Common.{◌≡◌, drop}
use Rattle.values_semantics.specs.Functions.{add_each}
use Rattle.values_heap.specs.View.{store_of}
use Rattle.values_builtins.proofs.dictionaries.add_each.Given as goal

abbrev pub invariant-loop-member : goal.invariant-loop-member
invariant-loop-member l = add_each (drop l.member-index l.members) l.entries.entries (store_of l.heap) ≡ add_each l.members l.fn.entries.entries (store_of l.fn.heap)
