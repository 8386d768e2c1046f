use Rattle.std.proofs.Common.{◌≡◌, option_map, IfOk, sym, subst, ap, ◌∙◌, arith, map}
use Rattle.std.specs.Prelude.{slice_get}
use Rattle.values_objects.specs.Objects.{object_of}
use Rattle.values_objects.specs.Standings.{is_gone, object_in}
use Rattle.values_objects.proofs.WholePages.{gone_listed, nothing_there, object_listed, same_page, standing_page}
use Rattle.values_objects.proofs.ListReads.{on_err}
use Rattle.values_objects.proofs.pages.Page.take.Goals as goal

pub returns-then-len-eq0-clause-gone : goal.returns-then-len-eq0-clause-gone
returns-then-len-eq0-clause-gone c =
    let page = c.args.self.now in
    nothing_there page.before.items page.after.items page.objects.items page.whole (omega (arith, c.if-len-eq0.true, c.len.ensures, page.objects.ok.0)) c.args.i c.requires

pub returns-clause-same : goal.returns-clause-same
returns-clause-same c =
    let page = c.args.self.now in
    same_page page.before.items page.after.items page.objects.items c.take_own.new.objects.items c.take_own.ensures.same

pub returns-clause-taken : goal.returns-clause-taken
returns-clause-taken c =
    let page = c.args.self.now in
    let is = standing_page page.before.items page.after.items page.objects.items page.whole (omega (arith, c.if-len-eq0.false, c.len.ensures, page.objects.ok.0)) in
    let here = ap (λ l. slice_get (map object_in l) c.args.i) is ∙ object_listed page.objects.items c.args.i in
    subst (λ o. IfOk c.take_own.result (λ found. o ≡ option_map object_of found)) (sym here) c.take_own.ensures.taken

pub returns-clause-gone : goal.returns-clause-gone
returns-clause-gone c =
    let page = c.args.self.now in
    let is = standing_page page.before.items page.after.items page.objects.items page.whole (omega (arith, c.if-len-eq0.false, c.len.ensures, page.objects.ok.0)) in
    let here = ap (λ l. option_map is_gone (slice_get l c.args.i)) is ∙ gone_listed page.objects.items c.args.i in
    on_err c.take_own.result (λ g. here ∙ g) c.take_own.ensures.gone
