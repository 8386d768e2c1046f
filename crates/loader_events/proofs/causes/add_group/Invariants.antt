use Rattle.std.proofs.Common.{◌≡◌, ◌++◌, take}
use Rattle.loader_events.proofs.causes.add_group.Given as goal

abbrev pub invariant-loop-i : goal.invariant-loop-i
invariant-loop-i l = l.members.items ≡ l.fn.members.items ++ take l.i l.group
