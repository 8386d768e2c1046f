use Rattle.std.proofs.Common.{◌≡◌, ◌≤◌, ◌+◌, take}
use Rattle.node.specs.Records.{items_of}
use Rattle.round.proofs.closing.groups_up_to.Given as goal

abbrev pub invariant-loop-i : goal.invariant-loop-i
invariant-loop-i l = record { so_far : items_of l.shared.items ≡ take l.i l.groups; within : l.i ≤ l.at + 1 }
