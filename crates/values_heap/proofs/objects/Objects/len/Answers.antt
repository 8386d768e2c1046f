use Rattle.std.proofs.Common.{◌+◌, length, refl, ap, ◌∙◌}
use Rattle.values_objects.specs.Pages.{own_standings}
use Rattle.values_heap.proofs.Places.{all_places}
use Rattle.values_heap.proofs.objects.Objects.len.Goals as goal

pub returns : goal.returns
returns c =
    let fields = c.self.inside in
    let own = own_standings fields.own in
    ap (λ n. n + fields.lent) c.len.ensures.number ∙ all_places fields.ranges.items (length own) fields.from fields.lent own refl c.self.invariant ∙ ap length c.self.view_is
