use Rattle.std.proofs.Common.{◌≡◌, List, option_map, IfOk, sym, subst, ap, ◌∙◌, arith, map}
use Rattle.std.specs.Prelude.{slice_get}
use Rattle.values_objects.specs.declared.heap_object.HeapObject.{HeapObject}
use Rattle.values_objects.specs.Looks.{seen_object}
use Rattle.values_objects.specs.Own.{written_object}
use Rattle.values_objects.specs.Standings.{has_gone, is_gone, object_in}
use Rattle.values_objects.proofs.WholePages.{gone_listed, nothing_there, object_listed, standing_page}
use Rattle.values_objects.proofs.ListReads.{on_err}
use Rattle.values_objects.proofs.pages.Page.object_ref.Goals as goal

pub returns-then-len-eq0-clause-gone : goal.returns-then-len-eq0-clause-gone
returns-then-len-eq0-clause-gone c =
    let page = c.args.self.now in
    nothing_there page.before.items page.after.items page.objects.items page.whole (omega (arith, c.if-len-eq0.true, c.len.ensures, page.objects.ok.0)) c.args.i c.requires

pub returns-clause-found : goal.returns-clause-found
returns-clause-found c =
    let page = c.args.self.now in
    let is = standing_page page.before.items page.after.items page.objects.items page.whole (omega (arith, c.if-len-eq0.false, c.len.ensures, page.objects.ok.0)) in
    let here = ap (λ l. slice_get (map object_in l) c.args.i) is ∙ object_listed page.objects.items c.args.i ∙ ap (λ (xs : List HeapObject). option_map written_object (slice_get xs c.args.i)) (sym c.as_slice.ensures.value) in
    subst (λ o. IfOk c.look_own.result (λ found. o ≡ option_map seen_object found)) (sym here) c.look_own.ensures.found

pub returns-clause-gone : goal.returns-clause-gone
returns-clause-gone c =
    let page = c.args.self.now in
    let is = standing_page page.before.items page.after.items page.objects.items page.whole (omega (arith, c.if-len-eq0.false, c.len.ensures, page.objects.ok.0)) in
    let here = ap (λ l. option_map is_gone (slice_get l c.args.i)) is ∙ gone_listed page.objects.items c.args.i ∙ ap (λ (xs : List HeapObject). option_map has_gone (slice_get xs c.args.i)) (sym c.as_slice.ensures.value) in
    on_err c.look_own.result (λ g. here ∙ g) c.look_own.ensures.gone
