use Rattle.std.proofs.Common.{◌≡◌, take}
use Rattle.round_nodes.proofs.members.share_all.Given as goal

abbrev pub invariant-loop-key : goal.invariant-loop-key
invariant-loop-key l = l.shared.items ≡ take l.key-index l.keys
