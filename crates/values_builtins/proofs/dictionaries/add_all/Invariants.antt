use Rattle.std.proofs.Common.{◌≡◌, drop}
use Rattle.values_semantics.specs.Functions.{add_all}
use Rattle.values_heap.specs.View.{store_of}
use Rattle.values_builtins.proofs.dictionaries.add_all.Given as goal

abbrev pub invariant-loop-pair : goal.invariant-loop-pair
invariant-loop-pair l = add_all (drop l.pair-index l.pairs) l.entries.entries (store_of l.heap) ≡ add_all l.pairs l.fn.entries.entries (store_of l.fn.heap)
