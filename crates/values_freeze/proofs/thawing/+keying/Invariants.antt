use Rattle.std.proofs.Common.{◌≡◌, ◌++◌, drop, map}
use Rattle.values_semantics.specs.Freezing.{frozen_keys}
use Rattle.values_freeze.specs.View.{frozen_of, members_of}
use Rattle.values_freeze.proofs.thawing.+keying.Given as goal

abbrev pub invariant-add_keys-loop-f : goal.invariant-add_keys-loop-f
invariant-add_keys-loop-f l = l.all.items ++ frozen_keys (members_of (map frozen_of (drop l.f-index l.members))) ≡ l.fn.all.items ++ frozen_keys (members_of (map frozen_of l.members))
