use Rattle.std.proofs.Common.{◌≡◌, take}
use Rattle.round.proofs.closing.share_group.Given as goal

abbrev pub invariant-loop-i : goal.invariant-loop-i
invariant-loop-i l = l.shared.items ≡ take l.i l.group
