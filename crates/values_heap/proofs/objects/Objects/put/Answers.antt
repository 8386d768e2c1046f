use Rattle.std.proofs.Common.{None, map, option_map, subst, ap}
use Rattle.values_heap.specs.declared.objects.Spot.TheVariants as s
use Rattle.values_objects.specs.Objects.{object_of}
use Rattle.values_objects.specs.Pages.{own_standings}
use Rattle.values_objects.specs.Standings.{is_lent, object_in}
use Rattle.values_heap.proofs.Places.{Finds, seen_now, lent_now, put_now, put_nothing}
use Rattle.values_heap.proofs.objects.Objects.put.Goals as goal

pub returns-in-Own-clause-put : goal.returns-in-Own-clause-put
returns-in-Own-clause-put c =
    let fields = c.self.inside in
    put_now (own_standings fields.own) (own_standings c.put.new.self) fields.ranges.items c.as_slice.result.now fields.from fields.lent c.args.place c.in-Own.i (object_of c.args.object) c.args.self.now c.self.view_is c.self.invariant c.as_slice.ensures.value c.in-Own.ensures.number c.put.ensures

pub returns-in-Lent-Some-default-clause-lent : goal.returns-in-Lent-Some-default-clause-lent
returns-in-Lent-Some-default-clause-lent c =
    let fields = c.self.inside in
    let case = c.in-Lent-Some-default in
    ap (option_map is_lent) (lent_now (own_standings fields.own) fields.ranges.items c.as_slice.result.now fields.from fields.lent c.args.place case._base case._object c.args.self.now c.self.view_is c.self.invariant c.as_slice.ensures.value (subst (λ f. Finds c.as_slice.result.now fields.from fields.lent c.args.place (s.Lent f case._base)) case.object-is case.ensures.found))

pub returns-in-Lent-None-default-clause-put : goal.returns-in-Lent-None-default-clause-put
returns-in-Lent-None-default-clause-put c =
    let fields = c.self.inside in
    let case = c.in-Lent-None-default in
    put_nothing (map object_in c.args.self.now) c.args.place (object_of c.args.object) (seen_now (own_standings fields.own) fields.ranges.items c.as_slice.result.now fields.from fields.lent c.args.place (s.Lent None case._base) c.args.self.now c.self.view_is c.self.invariant c.as_slice.ensures.value (subst (λ f. Finds c.as_slice.result.now fields.from fields.lent c.args.place (s.Lent f case._base)) case.object-is case.ensures.found))
