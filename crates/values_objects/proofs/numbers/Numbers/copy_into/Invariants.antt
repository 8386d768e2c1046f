use Rattle.std.proofs.Common.{◌≡◌, take}
use Rattle.values_objects.specs.Numbers.{shown}
use Rattle.values_objects.proofs.numbers.Numbers.copy_into.Given as goal

abbrev pub invariant-loop-i : goal.invariant-loop-i
invariant-loop-i l = l.all.items ≡ take l.i (shown l.self)
