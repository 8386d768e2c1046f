use Rattle.std.proofs.Common.{◌≡◌, drop}
use Rattle.values_semantics.specs.Functions.{add_named}
use Rattle.values_heap.specs.View.{store_of}
use Rattle.values_builtins.proofs.dictionaries.add_named.Given as goal

abbrev pub invariant-loop-named : goal.invariant-loop-named
invariant-loop-named l = add_named (drop l.named-index l.names) l.entries.entries (store_of l.heap) ≡ add_named l.names l.fn.entries.entries (store_of l.fn.heap)
