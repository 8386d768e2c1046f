use Rattle.std.proofs.Common.{◌≡◌, ◌++◌, drop, map}
use Rattle.values_semantics.specs.Outcome.{and_then, gives}
use Rattle.values_semantics.specs.Freezing.{thaw_members, thaw_pairs}
use Rattle.values_freeze.specs.Laid.{over}
use Rattle.values_freeze.specs.View.{frozen_of, entry_of, members_of, pairs_of}
use Rattle.values_freeze.proofs.laying.+laying.Given as goal

abbrev pub invariant-lay_members-loop-f : goal.invariant-lay_members-loop-f
invariant-lay_members-loop-f l = and_then (thaw_members (members_of (map frozen_of (drop l.f-index l.members))) (over l.objects)) (λ xs. gives (l.all.items ++ xs)) ≡ thaw_members (members_of (map frozen_of l.members)) (over l.fn.objects)

abbrev pub invariant-lay_entries-loop-e : goal.invariant-lay_entries-loop-e
invariant-lay_entries-loop-e l = thaw_pairs l.all (pairs_of (map entry_of (drop l.e-index l.entries))) (over l.objects) ≡ thaw_pairs l.fn.all (pairs_of (map entry_of l.entries)) (over l.fn.objects)
