use Rattle.std.proofs.Common.{◌≡◌, ◌++◌, drop}
use Rattle.loader_events.specs.Causes.{changed_after}
use Rattle.loader_events.proofs.causes.changed_since.Given as goal

abbrev pub invariant-loop-member : goal.invariant-loop-member
invariant-loop-member l = l.changed.items ++ changed_after l.graph l.last.version (drop l.member-index l.last.members) ≡ changed_after l.graph l.last.version l.last.members
