use Rattle.std.proofs.Common.{◌≡◌, take}
use Rattle.loader_events.specs.Causes.{joined}
use Rattle.loader_events.proofs.causes.members_in.Given as goal

abbrev pub invariant-loop-i : goal.invariant-loop-i
invariant-loop-i l = l.members.items ≡ joined (take l.i l.groups)
