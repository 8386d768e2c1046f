use Rattle.std.proofs.Common.{map, sym, ap, ◌∙◌}
use Rattle.values_objects.specs.Pages.{own_standings}
use Rattle.values_objects.specs.ObjectBytes.{standing_bytes}
use Rattle.values_objects.specs.Standings.{object_in}
use Rattle.values_heap.proofs.Places.{told}
use Rattle.values_objects.proofs.AllOwn.{are_own}
use Rattle.values_heap.proofs.OwnObjects.{own_numbered}
use Rattle.values_heap.proofs.objects.Objects.free.Goals as goal

pub returns-clause-same : goal.returns-clause-same
returns-clause-same c = told c.self.inside.ranges.items (own_standings c.free.new.self) (own_standings c.self.inside.own) c.free.ensures.same ∙ ap (map object_in) c.self.view_is

pub returns-clause-bytes : goal.returns-clause-bytes
returns-clause-bytes c =
    let fields = c.self.inside in
    c.free.ensures.bytes ∙ sym (ap standing_bytes (own_numbered (own_standings fields.own) fields.ranges.items fields.from fields.lent c.args.number c.args.self.now (are_own fields.own) c.self.view_is c.self.invariant))
