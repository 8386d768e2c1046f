use Rattle.std.proofs.Common.{◌≡◌, ◌++◌}
use Rattle.values_semantics.specs.Operators.{times}
use Rattle.values_objects.proofs.lists.add_times.Given as goal

abbrev pub invariant-loop-i : goal.invariant-loop-i
invariant-loop-i g l = l.all.items ≡ l.fn.all.items ++ times l._i l.a
