use Rattle.std.proofs.Common.{◌≡◌, None, option_map, map, IfOk, sym, subst, ap, ◌∙◌}
use Rattle.std.specs.Prelude.{slice_get}
use Rattle.values_heap.specs.declared.objects.Spot.TheVariants as s
use Rattle.values_objects.specs.Objects.{object_of}
use Rattle.values_objects.specs.Pages.{own_standings}
use Rattle.values_objects.specs.Standings.{is_gone, stays, object_in}
use Rattle.values_heap.proofs.Places.{Finds, seen_now, own_now, lent_now, gone_stays, told}
use Rattle.values_objects.proofs.ListReads.{on_err}
use Rattle.values_heap.proofs.objects.Objects.take.Goals as goal

pub returns-in-Own-clause-same : goal.returns-in-Own-clause-same
returns-in-Own-clause-same c =
    let fields = c.self.inside in
    told fields.ranges.items (own_standings c.take.new.self) (own_standings fields.own) c.take.ensures.same ∙ ap (map object_in) c.self.view_is

pub returns-in-Own-clause-taken : goal.returns-in-Own-clause-taken
returns-in-Own-clause-taken c =
    let fields = c.self.inside in
    let own = own_standings fields.own in
    let is = seen_now own fields.ranges.items c.as_slice.result.now fields.from fields.lent c.args.place (s.Own c.in-Own.i) c.args.self.now c.self.view_is c.self.invariant c.as_slice.ensures.value c.in-Own.ensures.found in
    subst (λ o. IfOk c.take.result (λ found. o ≡ option_map object_of found)) (sym is) c.take.ensures.taken

pub returns-in-Own-clause-kept : goal.returns-in-Own-clause-kept
returns-in-Own-clause-kept c =
    let fields = c.self.inside in
    let own = own_standings fields.own in
    let here = own_now own fields.ranges.items c.as_slice.result.now fields.from fields.lent c.args.place c.in-Own.i c.args.self.now c.self.view_is c.self.invariant c.as_slice.ensures.value c.in-Own.ensures.found in
    on_err c.take.result (λ g. gone_stays (slice_get c.args.self.now c.args.place) (ap (option_map is_gone) here ∙ g)) c.take.ensures.gone

pub returns-in-Lent-Some-default-clause-kept : goal.returns-in-Lent-Some-default-clause-kept
returns-in-Lent-Some-default-clause-kept c =
    let fields = c.self.inside in
    let case = c.in-Lent-Some-default in
    ap (option_map stays) (lent_now (own_standings fields.own) fields.ranges.items c.as_slice.result.now fields.from fields.lent c.args.place case._base case._object c.args.self.now c.self.view_is c.self.invariant c.as_slice.ensures.value (subst (λ f. Finds c.as_slice.result.now fields.from fields.lent c.args.place (s.Lent f case._base)) case.object-is case.ensures.found))

pub returns-in-Lent-None-default-clause-taken : goal.returns-in-Lent-None-default-clause-taken
returns-in-Lent-None-default-clause-taken c =
    let fields = c.self.inside in
    let case = c.in-Lent-None-default in
    seen_now (own_standings fields.own) fields.ranges.items c.as_slice.result.now fields.from fields.lent c.args.place (s.Lent None case._base) c.args.self.now c.self.view_is c.self.invariant c.as_slice.ensures.value (subst (λ f. Finds c.as_slice.result.now fields.from fields.lent c.args.place (s.Lent f case._base)) case.object-is case.ensures.found)
