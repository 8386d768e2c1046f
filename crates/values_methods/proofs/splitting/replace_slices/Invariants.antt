use Rattle.std.proofs.Common.{◌≡◌, true, ◌++◌, length}
use Rattle.values_semantics.specs.Heap.{is_sized}
use Rattle.values_semantics.specs.Methods.{split_by, with_between}
use Rattle.values_methods.proofs.splitting.replace_slices.Given as goal

abbrev pub invariant-loop-place : goal.invariant-loop-place
invariant-loop-place l = (l.all.items ++ with_between l.new (split_by l.old l.rest) ≡ with_between l.new (split_by l.old l.whole)) × (is_sized (length l.all.items) ≡ true)

abbrev pub decreases-loop-place : goal.decreases-loop-place
decreases-loop-place l = length l.rest
