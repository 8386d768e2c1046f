use Rattle.std.proofs.Common.{◌≡◌, take}
use Rattle.std.specs.List.{filter_map}
use Rattle.keys.specs.Cycles.{label_of}
use Rattle.round.proofs.cycles.labels_of.Given as goal

abbrev pub invariant-loop-member : goal.invariant-loop-member
invariant-loop-member l = l.labels.items ≡ filter_map label_of (take l.member-index l.members)
