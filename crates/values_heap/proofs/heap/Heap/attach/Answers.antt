use Rattle.std.proofs.Common.{◌++◌, length, map, sym, ap, ◌∙◌}
use Rattle.std.specs.Arc.{arc_value}
use Rattle.std.proofs.lemmas.List.{length-map, map-append}
use Rattle.values_frozen_objects.specs.Shift.{moved}
use Rattle.values_heap.specs.Ranges.{lent_at}
use Rattle.values_objects.specs.Standings.{object_in}
use Rattle.values_heap.specs.View.{store_of}
use Rattle.values_heap.proofs.Places.{lent_in}
use Rattle.values_heap.proofs.heap.Heap.attach.Goals as goal

pub returns-clause-lent : goal.returns-clause-lent
returns-clause-lent c =
    let objects = c.args.self.now.objects in
    let more = arc_value c.args.objects.now in
    ap (λ l. record (store_of c.args.self.now) { heap = l })
    (ap (map object_in) c.in_ok-attach.ensures.lent ∙ map-append object_in objects (map (lent_at (length objects)) more)
    ∙ ap (λ l. map object_in objects ++ l) (lent_in (length objects) more ∙ ap (λ n. map (moved n) more) (sym (length-map objects object_in))))
