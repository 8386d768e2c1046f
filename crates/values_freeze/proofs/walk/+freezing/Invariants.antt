use Rattle.std.proofs.Common.{◌≡◌, ◌+◌, ◌*◌, drop, map}
use Rattle.values_semantics.specs.Outcome.{and_then, gives}
use Rattle.values_semantics.specs.Freezing.{freeze, freeze_members, freeze_entries}
use Rattle.values_objects.specs.Standings.{object_in}
use Rattle.values_freeze.specs.View.{frozen_of, entry_of, onto, pairs_onto}
use Rattle.values_freeze.proofs.walk.+freezing.Given as goal

abbrev pub decreases-freeze : goal.decreases-freeze
decreases-freeze l = 8 * l.left + 7

abbrev pub decreases-freeze_object : goal.decreases-freeze_object
decreases-freeze_object l = 8 * l.left + 6

abbrev pub decreases-freeze_list : goal.decreases-freeze_list
decreases-freeze_list l = 8 * l.left + 5

abbrev pub decreases-freeze_tuple : goal.decreases-freeze_tuple
decreases-freeze_tuple l = 8 * l.left + 5

abbrev pub decreases-freeze_dict : goal.decreases-freeze_dict
decreases-freeze_dict l = 8 * l.left + 5

abbrev pub decreases-freeze_members : goal.decreases-freeze_members
decreases-freeze_members l = 8 * l.left + 8

abbrev pub decreases-freeze_entry : goal.decreases-freeze_entry
decreases-freeze_entry l = 8 * l.left + 8

abbrev pub decreases-freeze_entries : goal.decreases-freeze_entries
decreases-freeze_entries l = 8 * l.left + 9

abbrev pub invariant-freeze_members-loop-i : goal.invariant-freeze_members-loop-i
invariant-freeze_members-loop-i l =
    let fz = freeze l.left (map object_in l.objects) in
    and_then (freeze_members fz (drop l.i l.members) l.steps) (λ fs. gives (onto (map frozen_of l.all.items) fs)) ≡ freeze_members fz l.members l.fn.steps

abbrev pub invariant-freeze_entries-loop-i : goal.invariant-freeze_entries-loop-i
invariant-freeze_entries-loop-i l =
    let fz = freeze l.left (map object_in l.objects) in
    and_then (freeze_entries fz (drop l.i l.entries) l.steps) (λ ps. gives (pairs_onto (map entry_of l.all.items) ps)) ≡ freeze_entries fz l.entries l.fn.steps
