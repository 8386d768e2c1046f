use Rattle.std.proofs.Common.{◌≡◌, ℕ, suc, ◌-◌, ◌<◌, ◌≤◌, length, Some}
use Rattle.std.specs.Prelude.{slice_get}
use Rattle.values_heap.specs.declared.objects.Range.{Range}
use Rattle.values_heap.proofs.objects.count_begun.Given as goal

abbrev pub invariant-halving : goal.invariant-halving
invariant-halving l = record {
  bounds : l.low ≤ l.high;
  within : l.high ≤ length l.ranges;
  last : (i : ℕ) (r : Range) → l.low ≡ suc i → slice_get l.ranges i ≡ Some r → r.start ≤ l.place;
  next : (r : Range) → slice_get l.ranges l.high ≡ Some r → l.place < r.start;
}

abbrev pub decreases-halving : goal.decreases-halving
decreases-halving l = l.high - l.low
