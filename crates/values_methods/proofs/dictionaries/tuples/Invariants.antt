use Rattle.std.proofs.Common.{◌≡◌, ◌++◌, drop}
use Rattle.values_semantics.specs.Outcome.{and_then, gives}
use Rattle.values_heap.specs.View.{store_of}
use Rattle.values_methods.specs.Cases.{entry_tuples}
use Rattle.values_methods.proofs.dictionaries.tuples.Given as goal

abbrev pub invariant-loop-pair : goal.invariant-loop-pair
invariant-loop-pair l = and_then (entry_tuples (drop l.pair-index l.pairs) (store_of l.heap)) (λ xs. gives (l.all.items ++ xs)) ≡ entry_tuples l.pairs (store_of l.fn.heap)
