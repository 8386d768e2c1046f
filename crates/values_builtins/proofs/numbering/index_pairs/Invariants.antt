use Rattle.std.proofs.Common.{◌≡◌, ◌++◌, length, drop}
use Rattle.values_semantics.specs.Outcome.{and_then, gives}
use Rattle.values_semantics.specs.Functions.{index_pairs}
use Rattle.values_heap.specs.View.{store_of}
use Rattle.values_builtins.proofs.numbering.index_pairs.Given as goal

abbrev pub invariant-loop-member : goal.invariant-loop-member
invariant-loop-member l =
    and_then (index_pairs (length l.pairs.items) (drop l.member-index l.members) (store_of l.heap)) (λ ps. gives (l.pairs.items ++ ps)) ≡ index_pairs 0 l.members (store_of l.fn.heap)
