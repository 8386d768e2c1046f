use Rattle.std.proofs.Common.{◌+◌, ◌++◌, length, map, sym, subst, ap, ◌∙◌}
use Rattle.std.specs.Arc.{arc_value}
use Rattle.values_objects.specs.Pages.{own_standings}
use Rattle.values_heap.specs.Ranges.{InOrder, laid, lent_at}
use Rattle.values_heap.proofs.Laid.{order_lent}
use Rattle.values_heap.proofs.Places.{range_lent}
use Rattle.values_heap.proofs.objects.Objects.attach.Goals as goal

pub invariant_of-self-2 : goal.invariant_of-self-2
invariant_of-self-2 c =
    let fields = c.self.inside in
    let own = own_standings fields.own in
    let r = c.in_ok-range in
    let start = r.ensures.start ∙ ap (λ n. n + fields.lent) c.len.ensures.number in
    let objects = ap length (sym r.ensures.objects) in
    subst (λ rs. InOrder rs 0 0 (length own) r.range.end r.range.through) (sym c.in_ok-push.ensures.items)
    (order_lent fields.ranges.items r.range 0 0 (length own) fields.from fields.lent c.self.invariant start (r.ensures.end ∙ ap (λ n. r.range.start + n) objects) (r.ensures.through ∙ ap (λ n. fields.lent + n) objects))

pub returns-clause-lent : goal.returns-clause-lent
returns-clause-lent c =
    let fields = c.self.inside in
    let own = own_standings fields.own in
    let r = c.in_ok-range in
    let start = r.ensures.start ∙ ap (λ n. n + fields.lent) c.len.ensures.number in
    ap (λ rs. laid rs own) c.in_ok-push.ensures.items
    ∙ range_lent fields.ranges.items r.range fields.from fields.lent own c.self.invariant start
    ∙ ap (λ w. w ++ map (lent_at (length w)) (arc_value r.range.objects)) c.self.view_is
    ∙ ap (λ os. c.args.self.now ++ map (lent_at (length c.args.self.now)) os) r.ensures.objects
