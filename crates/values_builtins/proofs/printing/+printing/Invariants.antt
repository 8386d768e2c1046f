use Rattle.std.proofs.Common.{◌≡◌, ◌+◌, ◌*◌, drop, map}
use Rattle.values_semantics.specs.Printing.{print, separated, pair_text}
use Rattle.values_objects.specs.Standings.{object_in}
use Rattle.values_builtins.specs.TextBuffers.{text_so_far, text_after}
use Rattle.values_builtins.proofs.TextBufferLaws.{left_of}
use Rattle.values_builtins.proofs.printing.+printing.Given as goal

abbrev pub decreases-print : goal.decreases-print
decreases-print l = 8 * l.left + 7

abbrev pub decreases-print_object : goal.decreases-print_object
decreases-print_object l = 8 * l.left + 6

abbrev pub decreases-print_list : goal.decreases-print_list
decreases-print_list l = 8 * l.left + 5

abbrev pub decreases-print_tuple : goal.decreases-print_tuple
decreases-print_tuple l = 8 * l.left + 5

abbrev pub decreases-print_dict : goal.decreases-print_dict
decreases-print_dict l = 8 * l.left + 5

abbrev pub decreases-print_enclosed : goal.decreases-print_enclosed
decreases-print_enclosed l = 8 * l.left + 10

abbrev pub decreases-print_braced : goal.decreases-print_braced
decreases-print_braced l = 8 * l.left + 10

abbrev pub decreases-print_members : goal.decreases-print_members
decreases-print_members l = 8 * l.left + 8

abbrev pub decreases-print_entry : goal.decreases-print_entry
decreases-print_entry l = 8 * l.left + 8

abbrev pub decreases-print_entries : goal.decreases-print_entries
decreases-print_entries l = 8 * l.left + 9

abbrev pub invariant-print_members-loop-i : goal.invariant-print_members-loop-i
invariant-print_members-loop-i l =
    let show = print l.left (map object_in l.objects) in
    text_after (left_of show l.i (drop l.i l.members)) l.steps (text_so_far l.out) ≡ text_after (separated show l.members) l.fn.steps (text_so_far l.fn.out)

abbrev pub invariant-print_entries-loop-i : goal.invariant-print_entries-loop-i
invariant-print_entries-loop-i l =
    let show = pair_text (print l.left (map object_in l.objects)) in
    text_after (left_of show l.i (drop l.i l.entries)) l.steps (text_so_far l.out) ≡ text_after (separated show l.entries) l.fn.steps (text_so_far l.fn.out)
