use Rattle.std.proofs.Common.{◌≡◌, ◌+◌, ◌*◌, drop, map}
use Rattle.values_freeze.specs.View.{frozen_of, entry_of, members_of, pairs_of}
use Rattle.values_freeze.specs.Same.{same_members, same_pairs}
use Rattle.values_freeze.proofs.same.+same.Given as goal

abbrev pub decreases-same : goal.decreases-same
decreases-same l = 4 * l.left

abbrev pub decreases-same_all : goal.decreases-same_all
decreases-same_all l = 4 * l.left + 1

abbrev pub decreases-same_entry : goal.decreases-same_entry
decreases-same_entry l = 4 * l.left + 1

abbrev pub decreases-same_entries : goal.decreases-same_entries
decreases-same_entries l = 4 * l.left + 2

abbrev pub invariant-same_all-loop-i : goal.invariant-same_all-loop-i
invariant-same_all-loop-i l = same_members (members_of (map frozen_of (drop l.i l.xs))) (members_of (map frozen_of (drop l.i l.ys))) l.left ≡ same_members (members_of (map frozen_of l.xs)) (members_of (map frozen_of l.ys)) l.left

abbrev pub invariant-same_entries-loop-i : goal.invariant-same_entries-loop-i
invariant-same_entries-loop-i l = same_pairs (pairs_of (map entry_of (drop l.i l.xs))) (pairs_of (map entry_of (drop l.i l.ys))) l.left ≡ same_pairs (pairs_of (map entry_of l.xs)) (pairs_of (map entry_of l.ys)) l.left
