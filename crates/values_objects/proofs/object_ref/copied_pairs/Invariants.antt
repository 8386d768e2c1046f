use Rattle.std.proofs.Common.{◌≡◌, ◌++◌, drop, map}
use Rattle.values_frozen_objects.specs.Shift.{moved_pair}
use Rattle.values_objects.proofs.object_ref.copied_pairs.Given as goal

abbrev pub invariant-loop-i : goal.invariant-loop-i
invariant-loop-i l = l.all.items ++ map (λ e. e.1) (map (moved_pair l.base) (drop l.i l.dict)) ≡ map (λ e. e.1) (map (moved_pair l.base) l.dict)
