use Rattle.std.proofs.Common.{◌≡◌, ◌++◌, drop, map}
use Rattle.values_semantics.specs.Outcome.{and_then, gives}
use Rattle.values_semantics.specs.Freezing.{thaw_members, thaw_pairs}
use Rattle.values_heap.specs.View.{store_of}
use Rattle.values_freeze.specs.View.{frozen_of, entry_of, members_of, pairs_of}
use Rattle.values_freeze.proofs.thawing.+thawing.Given as goal

abbrev pub invariant-thaw_members-loop-f : goal.invariant-thaw_members-loop-f
invariant-thaw_members-loop-f l = and_then (thaw_members (members_of (map frozen_of (drop l.f-index l.members))) (store_of l.heap)) (λ xs. gives (l.all.items ++ xs)) ≡ thaw_members (members_of (map frozen_of l.members)) (store_of l.fn.heap)

abbrev pub invariant-thaw_entries-loop-e : goal.invariant-thaw_entries-loop-e
invariant-thaw_entries-loop-e l = thaw_pairs l.all.entries (pairs_of (map entry_of (drop l.e-index l.entries))) (store_of l.heap) ≡ thaw_pairs l.fn.all.entries (pairs_of (map entry_of l.entries)) (store_of l.fn.heap)
