use Rattle.std.proofs.Common.{◌≡◌, Some, None, option_map, IfOk, sym, subst, ap, ◌∙◌}
use Rattle.std.specs.Borrow.{Bor}
use Rattle.values_frozen_objects.specs.declared.object.FrozenObject.{FrozenObject}
use Rattle.values_frozen_objects.specs.Shift.{moved}
use Rattle.values_frozen_objects.specs.Objects.{frozen_obj}
use Rattle.values_heap.specs.declared.objects.Spot.TheVariants as s
use Rattle.values_objects.specs.Looks.{seen_object}
use Rattle.values_objects.specs.Pages.{own_standings}
use Rattle.values_objects.specs.Standings.{is_gone}
use Rattle.values_heap.proofs.Places.{Finds, seen_now, own_now}
use Rattle.values_objects.proofs.ListReads.{on_err}
use Rattle.values_heap.proofs.objects.Objects.object_ref.Goals as goal

pub returns-in-Own-clause-found : goal.returns-in-Own-clause-found
returns-in-Own-clause-found c =
    let fields = c.self.inside in
    let own = own_standings fields.own in
    let is = seen_now own fields.ranges.items c.as_slice.result.now fields.from fields.lent c.args.place (s.Own c.in-Own.i) c.args.self.now c.self.view_is c.self.invariant c.as_slice.ensures.value c.in-Own.ensures.found in
    subst (λ o. IfOk c.object_ref.result (λ found. o ≡ option_map seen_object found)) (sym is) c.object_ref.ensures.found

pub returns-in-Own-clause-gone : goal.returns-in-Own-clause-gone
returns-in-Own-clause-gone c =
    let fields = c.self.inside in
    let own = own_standings fields.own in
    let here = own_now own fields.ranges.items c.as_slice.result.now fields.from fields.lent c.args.place c.in-Own.i c.args.self.now c.self.view_is c.self.invariant c.as_slice.ensures.value c.in-Own.ensures.found in
    on_err c.object_ref.result (λ g. ap (option_map is_gone) here ∙ g) c.object_ref.ensures.gone

pub returns-in-Lent-Some-default-clause-found : goal.returns-in-Lent-Some-default-clause-found
returns-in-Lent-Some-default-clause-found c =
    let fields = c.self.inside in
    let case = c.in-Lent-Some-default in
    seen_now (own_standings fields.own) fields.ranges.items c.as_slice.result.now fields.from fields.lent c.args.place (s.Lent (Some case.object) case.base) c.args.self.now c.self.view_is c.self.invariant c.as_slice.ensures.value (subst (λ f. Finds c.as_slice.result.now fields.from fields.lent c.args.place (s.Lent f case.base)) case.object-is case.ensures.found)
    ∙ ap (λ (o : Bor FrozenObject). Some (moved case.base (frozen_obj o.now))) (sym case.object-is') ∙ ap Some (sym c.show_lent.ensures)

pub returns-in-Lent-None-default-clause-found : goal.returns-in-Lent-None-default-clause-found
returns-in-Lent-None-default-clause-found c =
    let fields = c.self.inside in
    let case = c.in-Lent-None-default in
    seen_now (own_standings fields.own) fields.ranges.items c.as_slice.result.now fields.from fields.lent c.args.place (s.Lent None case._base) c.args.self.now c.self.view_is c.self.invariant c.as_slice.ensures.value (subst (λ f. Finds c.as_slice.result.now fields.from fields.lent c.args.place (s.Lent f case._base)) case.object-is case.ensures.found)
