use Rattle.std.proofs.Common.{◌≡◌, ◌≤◌, ◌-◌, ◌++◌, length}
use Rattle.values_semantics.specs.Functions.{range_count, numbers}
use Rattle.values_builtins.proofs.ranges.numbers.Given as goal

abbrev pub invariant-loop-members : goal.invariant-loop-members
invariant-loop-members l =
    (l.members.items ++ numbers (range_count l.next l.to l.step) l.next l.step ≡ numbers (range_count l.from l.to l.step) l.from l.step)
    × (length l.members.items ≤ 65536)

abbrev pub decreases-loop-members : goal.decreases-loop-members
decreases-loop-members l = 65536 - length l.members.items
