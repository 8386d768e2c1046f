use Rattle.std.proofs.Common.{◌≡◌, drop}
use Rattle.values_semantics.specs.Functions.{any_true}
use Rattle.values_heap.specs.View.{store_of}
use Rattle.values_builtins.proofs.truths.is_any_true.Given as goal

abbrev pub invariant-loop-member : goal.invariant-loop-member
invariant-loop-member l = any_true (store_of l.heap) (drop l.member-index l.members) ≡ any_true (store_of l.heap) l.members
