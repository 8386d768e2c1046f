use Rattle.std.proofs.Common.{◌≡◌, ◌++◌, drop, map}
use Rattle.values_frozen_objects.specs.Shift.{moved_val}
use Rattle.values_objects.proofs.object_ref.copied_lent.Given as goal

abbrev pub invariant-loop-x : goal.invariant-loop-x
invariant-loop-x l = l.all.items ++ map (moved_val l.base) (drop l.x-index l.items) ≡ map (moved_val l.base) l.items
