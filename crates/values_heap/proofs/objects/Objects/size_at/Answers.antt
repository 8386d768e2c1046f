use Rattle.std.proofs.Common.{◌≡◌, Some, None, option_map, IfOk, sym, subst, ap, ◌∙◌}
use Rattle.std.specs.Borrow.{Bor}
use Rattle.values_frozen_objects.specs.declared.object.FrozenObject.{FrozenObject}
use Rattle.values_frozen_objects.specs.Objects.{frozen_obj}
use Rattle.values_heap.specs.declared.objects.Spot.TheVariants as s
use Rattle.values_objects.specs.ObjectBytes.{object_bytes, found_bytes, copy_bytes}
use Rattle.values_objects.specs.Pages.{own_standings}
use Rattle.values_objects.specs.Standings.{is_gone}
use Rattle.values_heap.proofs.Places.{Finds, seen_now, own_now, lent_now, moved_bytes, nothing_now}
use Rattle.values_objects.proofs.ListReads.{on_err}
use Rattle.values_heap.proofs.objects.Objects.size_at.Goals as goal

pub returns-in-Own-clause-found : goal.returns-in-Own-clause-found
returns-in-Own-clause-found c =
    let fields = c.self.inside in
    let own = own_standings fields.own in
    let is = seen_now own fields.ranges.items c.as_slice.result.now fields.from fields.lent c.args.place (s.Own c.in-Own.i) c.args.self.now c.self.view_is c.self.invariant c.as_slice.ensures.value c.in-Own.ensures.found in
    subst (λ o. IfOk c.size.result (λ n. n ≡ found_bytes o)) (sym is) c.size.ensures.found

pub returns-in-Own-clause-counted : goal.returns-in-Own-clause-counted
returns-in-Own-clause-counted c =
    let fields = c.self.inside in
    let own = own_standings fields.own in
    let here = own_now own fields.ranges.items c.as_slice.result.now fields.from fields.lent c.args.place c.in-Own.i c.args.self.now c.self.view_is c.self.invariant c.as_slice.ensures.value c.in-Own.ensures.found in
    subst (λ o. IfOk c.size.result (λ n. n ≡ copy_bytes o)) (sym here) c.size.ensures.counted

pub returns-in-Own-clause-gone : goal.returns-in-Own-clause-gone
returns-in-Own-clause-gone c =
    let fields = c.self.inside in
    let own = own_standings fields.own in
    let here = own_now own fields.ranges.items c.as_slice.result.now fields.from fields.lent c.args.place c.in-Own.i c.args.self.now c.self.view_is c.self.invariant c.as_slice.ensures.value c.in-Own.ensures.found in
    on_err c.size.result (λ g. ap (option_map is_gone) here ∙ g) c.size.ensures.gone

pub returns-in-Lent-Some-default-clause-found : goal.returns-in-Lent-Some-default-clause-found
returns-in-Lent-Some-default-clause-found c =
    let fields = c.self.inside in
    let case = c.in-Lent-Some-default in
    let is = seen_now (own_standings fields.own) fields.ranges.items c.as_slice.result.now fields.from fields.lent c.args.place (s.Lent (Some case.object) case._base) c.args.self.now c.self.view_is c.self.invariant c.as_slice.ensures.value (subst (λ f. Finds c.as_slice.result.now fields.from fields.lent c.args.place (s.Lent f case._base)) case.object-is case.ensures.found) in
    c.size_of.ensures ∙ c.frozen_shape.ensures ∙ ap (λ (o : Bor FrozenObject). object_bytes (frozen_obj o.now)) case.object-is' ∙ sym (moved_bytes case._base (frozen_obj case.object.now)) ∙ ap found_bytes (sym is)

pub returns-in-Lent-Some-default-clause-counted : goal.returns-in-Lent-Some-default-clause-counted
returns-in-Lent-Some-default-clause-counted c =
    let fields = c.self.inside in
    let case = c.in-Lent-Some-default in
    let here = lent_now (own_standings fields.own) fields.ranges.items c.as_slice.result.now fields.from fields.lent c.args.place case._base case.object c.args.self.now c.self.view_is c.self.invariant c.as_slice.ensures.value (subst (λ f. Finds c.as_slice.result.now fields.from fields.lent c.args.place (s.Lent f case._base)) case.object-is case.ensures.found) in
    c.size_of.ensures ∙ c.frozen_shape.ensures ∙ ap (λ (o : Bor FrozenObject). object_bytes (frozen_obj o.now)) case.object-is' ∙ sym (moved_bytes case._base (frozen_obj case.object.now)) ∙ ap copy_bytes (sym here)

pub returns-in-Lent-None-default-clause-found : goal.returns-in-Lent-None-default-clause-found
returns-in-Lent-None-default-clause-found c =
    let fields = c.self.inside in
    let case = c.in-Lent-None-default in
    let is = seen_now (own_standings fields.own) fields.ranges.items c.as_slice.result.now fields.from fields.lent c.args.place (s.Lent None case._base) c.args.self.now c.self.view_is c.self.invariant c.as_slice.ensures.value (subst (λ f. Finds c.as_slice.result.now fields.from fields.lent c.args.place (s.Lent f case._base)) case.object-is case.ensures.found) in
    ap found_bytes (sym is)

pub returns-in-Lent-None-default-clause-counted : goal.returns-in-Lent-None-default-clause-counted
returns-in-Lent-None-default-clause-counted c =
    let fields = c.self.inside in
    let case = c.in-Lent-None-default in
    let here = nothing_now (own_standings fields.own) fields.ranges.items c.as_slice.result.now fields.from fields.lent c.args.place case._base c.args.self.now c.self.view_is c.self.invariant c.as_slice.ensures.value (subst (λ f. Finds c.as_slice.result.now fields.from fields.lent c.args.place (s.Lent f case._base)) case.object-is case.ensures.found) in
    ap copy_bytes (sym here)
