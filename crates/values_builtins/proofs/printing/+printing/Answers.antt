use Rattle.std.proofs.Common.{rules, map, ap, ◌∙◌, arith, codes, to_z, of_z, w64}
use Rattle.values_semantics.specs.Outcome.{gives}
use Rattle.values_semantics.specs.Printing.{print, int_text, separated, pair_text}
use Rattle.values_objects.specs.Standings.{object_in}
use Rattle.values_builtins.specs.TextBuffers.{text_so_far}
use Rattle.values_builtins.proofs.TextBufferLaws.{contained, twice, more_nothing, items_end, item_halts, item_told}
use Rattle.values_builtins.proofs.PrintLaws.{print_plainly}
use Rattle.values_builtins.proofs.printing.+printing.Goals as goal

pub print_members-returns-in-Err : goal.print_members-returns-in-Err
print_members-returns-in-Err t c =
    let show = print c.args.left (map object_in c.args.objects.now) in
    let xs = c.args.members.now in
    item_halts show xs c.loop-i.i c.loop-i.steps (text_so_far c.loop-i.out) (separated show xs) c.args.steps.now (text_so_far c.args.out.now) c.loop-i.invariant c.in-Some.x c.in-Some.ensures (Unit {0}) (text_so_far c.write_before.new.out) c.in-Err.halt c.print.new.steps (text_so_far c.print.new.out) (text_so_far c.print.new.out) c.in-Err.ensures

pub print_members-loop-i-preserved : goal.print_members-loop-i-preserved
print_members-loop-i-preserved t c =
    let show = print c.args.left (map object_in c.args.objects.now) in
    let xs = c.args.members.now in
    item_told show xs c.loop-i.i c.loop-i.steps (text_so_far c.loop-i.out) (separated show xs) c.args.steps.now (text_so_far c.args.out.now) c.loop-i.invariant c.in-Some.x c.in-Some.ensures (text_so_far c.write_before.new.out) c.print.new.steps (text_so_far c.print.new.out) c.in_ok-write_before.ensures c.in-Ok.ensures

pub print_members-returns : goal.print_members-returns
print_members-returns t c =
    let show = print c.args.left (map object_in c.args.objects.now) in
    let xs = c.args.members.now in
    items_end show xs c.loop-i.i c.loop-i.steps (text_so_far c.loop-i.out) (separated show xs) c.args.steps.now (text_so_far c.args.out.now) c.loop-i.invariant (omega (arith, c.loop-i-test.false, c.loop-i.auto.i-end)) ∙ ap (λ o. gives o c.loop-i.steps) (more_nothing c.loop-i.out)

pub print_entries-returns-in-Err : goal.print_entries-returns-in-Err
print_entries-returns-in-Err t c =
    let show = pair_text (print c.args.left (map object_in c.args.objects.now)) in
    let xs = c.args.entries.now in
    item_halts show xs c.loop-i.i c.loop-i.steps (text_so_far c.loop-i.out) (separated show xs) c.args.steps.now (text_so_far c.args.out.now) c.loop-i.invariant (c.in-Some._key.now, c.in-Some.entry) c.in-Some.ensures (Unit {0}) (text_so_far c.write_before.new.out) c.in-Err.halt c.print_entry.new.steps (text_so_far c.print_entry.new.out) (text_so_far c.print_entry.new.out) c.in-Err.ensures

pub print_entries-loop-i-preserved : goal.print_entries-loop-i-preserved
print_entries-loop-i-preserved t c =
    let show = pair_text (print c.args.left (map object_in c.args.objects.now)) in
    let xs = c.args.entries.now in
    item_told show xs c.loop-i.i c.loop-i.steps (text_so_far c.loop-i.out) (separated show xs) c.args.steps.now (text_so_far c.args.out.now) c.loop-i.invariant (c.in-Some._key.now, c.in-Some.entry) c.in-Some.ensures (text_so_far c.write_before.new.out) c.print_entry.new.steps (text_so_far c.print_entry.new.out) c.in_ok-write_before.ensures c.in-Ok.ensures

pub print_entries-returns : goal.print_entries-returns
print_entries-returns t c =
    let show = pair_text (print c.args.left (map object_in c.args.objects.now)) in
    let xs = c.args.entries.now in
    items_end show xs c.loop-i.i c.loop-i.steps (text_so_far c.loop-i.out) (separated show xs) c.args.steps.now (text_so_far c.args.out.now) c.loop-i.invariant (omega (arith, c.loop-i-test.false, c.loop-i.auto.i-end) ∙ c.len-i-end.ensures.len) ∙ ap (λ o. gives o c.loop-i.steps) (more_nothing c.loop-i.out)

pub print-returns-in_ok-print_int-in-Int : goal.print-returns-in_ok-print_int-in-Int
print-returns-in_ok-print_int-in-Int t c =
    let heap = map object_in c.args.objects.now in
    print_plainly c.args.left heap c.args.x c.args.steps.now (text_so_far c.args.out.now) (int_text (to_z w64 (of_z w64 c.in-Int.n))) (gives (text_so_far c.print_int.new.out) c.print_int.new.steps) (search rules) c.in_ok-print_int-in-Int.ensures

pub print_braced-returns : goal.print_braced-returns
print_braced-returns t c =
    let show = pair_text (print c.args.left (map object_in c.args.objects.now)) in
    contained (separated show c.args.entries.now) c.args.steps.now c.tick.new.steps c.print_entries.new.steps (text_so_far c.args.out.now) (text_so_far c.write.new.self) (text_so_far c.print_entries.new.out) (text_so_far c.write-2.new.self) (codes "{") (codes "}") c.in_ok-tick.ensures c.in_ok-write.ensures c.in_ok-print_entries.ensures c.in_ok-write-2.ensures

pub print_enclosed-returns : goal.print_enclosed-returns
print_enclosed-returns t c =
    let show = print c.args.left (map object_in c.args.objects.now) in
    contained (separated show c.args.members.now) c.args.steps.now c.tick.new.steps c.print_members.new.steps (text_so_far c.args.out.now) (text_so_far c.write.new.self) (text_so_far c.print_members.new.out) (text_so_far c.write-2.new.self) c.args.brackets.before.now c.args.brackets.after.now c.in_ok-tick.ensures c.in_ok-write.ensures c.in_ok-print_members.ensures c.in_ok-write-2.ensures

pub print_entry-returns : goal.print_entry-returns
print_entry-returns t c =
    let show = print c.args.left (map object_in c.args.objects.now) in
    twice (show c.args.entry.key) (show c.args.entry.value) c.args.steps.now c.print.new.steps c.print-2.new.steps (text_so_far c.args.out.now) (text_so_far c.print.new.out) (text_so_far c.write.new.self) (text_so_far c.print-2.new.out) (codes ": ") c.in_ok-print.ensures c.in_ok-write.ensures c.in_ok-print-2.ensures
