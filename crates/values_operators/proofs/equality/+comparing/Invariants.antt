use Rattle.std.proofs.Common.{◌≡◌, ◌+◌, ◌*◌, drop, map}
use Rattle.values_semantics.specs.Comparing.{equal, equal_members, equal_entries}
use Rattle.values_objects.specs.Standings.{object_in}
use Rattle.values_operators.proofs.equality.+comparing.Given as goal

abbrev pub decreases-equal : goal.decreases-equal
decreases-equal l = 5 * l.left + 1

abbrev pub decreases-equal_lists : goal.decreases-equal_lists
decreases-equal_lists l = 5 * l.left

abbrev pub decreases-equal_dicts : goal.decreases-equal_dicts
decreases-equal_dicts l = 5 * l.left

abbrev pub decreases-equal_members : goal.decreases-equal_members
decreases-equal_members l = 5 * l.left + 2

abbrev pub decreases-equal_entries : goal.decreases-equal_entries
decreases-equal_entries l = 5 * l.left + 4

abbrev pub decreases-equal_found : goal.decreases-equal_found
decreases-equal_found l = 5 * l.left + 2

abbrev pub invariant-equal_members-loop-i : goal.invariant-equal_members-loop-i
invariant-equal_members-loop-i l =
    let eq = equal l.left (map object_in l.objects) in
    equal_members eq (drop l.i l.xs) (drop l.i l.ys) l.steps ≡ equal_members eq l.xs l.ys l.fn.steps

abbrev pub invariant-equal_entries-loop-i : goal.invariant-equal_entries-loop-i
invariant-equal_entries-loop-i l =
    let eq = equal l.left (map object_in l.objects) in
    equal_entries eq (drop l.i l.xs) l.ys l.steps ≡ equal_entries eq l.xs l.ys l.fn.steps

abbrev pub decreases-equal_entry : goal.decreases-equal_entry
decreases-equal_entry l = 5 * l.left + 3
