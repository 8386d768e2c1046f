use Rattle.std.proofs.Common.{List, ◌+◌, ◌∷◌, [], drop, map, ap, ◌∙◌}
use Rattle.std.proofs.lemmas.List.{map-append}
use Rattle.values_semantics.specs.Outcome.{and_then, gives}
use Rattle.values_semantics.specs.Freezing.{Fz, freeze, freeze_members, freeze_entries}
use Rattle.values_objects.specs.Standings.{object_in}
use Rattle.values_freeze.specs.View.{frozen_of, entry_of, onto, pairs_onto}
use Rattle.values_freeze.proofs.FreezeLaws.{member_frozen, member_halts, entry_frozen, entry_halts}
use Rattle.values_freeze.proofs.walk.+freezing.Goals as goal

pub freeze_members-returns-in-Err : goal.freeze_members-returns-in-Err
freeze_members-returns-in-Err t c =
    let fz = freeze c.args.left (map object_in c.args.objects.now) in
    member_halts fz c.args.members.now c.loop-i.i c.loop-i.steps (map frozen_of c.loop-i.all.items) _ c.loop-i.invariant c.in-Some.x c.in-Some.ensures c.in-Err.halt c.freeze.new.steps c.in-Err.ensures

pub freeze_members-loop-i-preserved : goal.freeze_members-loop-i-preserved
freeze_members-loop-i-preserved t c =
    let fz = freeze c.args.left (map object_in c.args.objects.now) in
    let xs = c.args.members.now in
    let next = member_frozen fz xs c.loop-i.i c.loop-i.steps (map frozen_of c.loop-i.all.items) _ c.loop-i.invariant c.in-Some.x c.in-Some.ensures (frozen_of c.in-Ok.f) c.freeze.new.steps c.in-Ok.ensures in
    let done = ap (map frozen_of) c.in_ok-push-in-Ok.ensures.items ∙ map-append frozen_of c.loop-i.all.items (c.in-Ok.f ∷ []) in
    ap (λ (l : List Fz). and_then (freeze_members fz (drop (c.loop-i.i + 1) xs) c.freeze.new.steps) (λ fs. gives (onto l fs))) done ∙ next

pub freeze_entries-returns-in-Err : goal.freeze_entries-returns-in-Err
freeze_entries-returns-in-Err t c =
    let fz = freeze c.args.left (map object_in c.args.objects.now) in
    entry_halts fz c.args.entries.now c.loop-i.i c.loop-i.steps (map entry_of c.loop-i.all.items) _ c.loop-i.invariant c.in-Some._key.now c.in-Some.entry c.in-Some.ensures c.in-Err.halt c.freeze_entry.new.steps c.in-Err.ensures

pub freeze_entries-loop-i-preserved : goal.freeze_entries-loop-i-preserved
freeze_entries-loop-i-preserved t c =
    let fz = freeze c.args.left (map object_in c.args.objects.now) in
    let xs = c.args.entries.now in
    let next = entry_frozen fz xs c.loop-i.i c.loop-i.steps (map entry_of c.loop-i.all.items) _ c.loop-i.invariant c.in-Some._key.now c.in-Some.entry c.in-Some.ensures (entry_of c.in-Ok.e) c.freeze_entry.new.steps c.in-Ok.ensures in
    let done = ap (map entry_of) c.in_ok-push-in-Ok.ensures.items ∙ map-append entry_of c.loop-i.all.items (c.in-Ok.e ∷ []) in
    ap (λ (l : List (Fz × Fz)). and_then (freeze_entries fz (drop (c.loop-i.i + 1) xs) c.freeze_entry.new.steps) (λ ps. gives (pairs_onto l ps))) done ∙ next
