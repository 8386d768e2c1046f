use Rattle.values_heap.specs.View.{store_of}
use Rattle.values_freeze.specs.View.{frozen_of}
use Rattle.values_freeze.proofs.Shallow.{freezes_shallow}
use Rattle.values_freeze.proofs.value.freeze_value.Goals as goal

pub invariant_of-result : goal.invariant_of-result
invariant_of-result c = (freezes_shallow c.args.x (store_of c.args.heap.now) (store_of c.freeze.new.heap) (frozen_of c.in_ok-inner.inner) c.in_ok-inner.ensures, c.in_ok-laid.ensures)
