use Rattle.std.proofs.Common.{◌∷◌, [], ◌++◌, map, false, sym, ap, ◌∙◌}
use Rattle.std.proofs.lemmas.List.{length-map}
use Rattle.values_semantics.specs.declared.val.Val.TheVariants as v
use Rattle.values_semantics.specs.Outcome.{gives}
use Rattle.values_semantics.specs.Heap.{makes}
use Rattle.values_objects.specs.Objects.{object_of}
use Rattle.values_objects.specs.Standings.{own, object_in}
use Rattle.values_heap.specs.View.{store_of}
use Rattle.values_heap.proofs.Places.{map_more, own_in}
use Rattle.values_heap.proofs.heap.Heap.make.Goals as goal

pub returns-clause-says : goal.returns-clause-says
returns-clause-says c =
    let h = c.charge.new.self in
    let x = object_of c.args.object in
    ap (makes x) (sym c.in_ok-charge.ensures.same)
    ∙ ap (λ n. gives (v.At n) (record (store_of h) { heap = map object_in h.objects ++ x ∷ [] })) (length-map h.objects object_in ∙ sym c.len-place.ensures)
    ∙ ap (λ l. gives (v.At c.len-place.result) (record (store_of h) { heap = l })) (sym (ap (map object_in) c.in_ok-push.ensures.pushed ∙ map_more h.objects (own x false) ∙ ap (λ y. map object_in h.objects ++ y ∷ []) (own_in x false)))
