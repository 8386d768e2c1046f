use Rattle.std.proofs.Common.{ap, ◌∙◌, arith, map}
use Rattle.values_objects.specs.Objects.{object_of}
use Rattle.values_objects.specs.Pages.{standings_in}
use Rattle.values_objects.specs.Standings.{object_in}
use Rattle.values_objects.proofs.WholePages.{written_later, written_page}
use Rattle.values_objects.proofs.pages.Page.put.Goals as goal

pub returns-then-len-eq0 : goal.returns-then-len-eq0
returns-then-len-eq0 c =
    let page = c.args.self.now in
    ap (λ ws. map object_in (standings_in page.before.items ws page.objects.items)) c.and-self.ensures
    ∙ written_later page.before.items page.after.items page.objects.items page.whole (omega (arith, c.if-len-eq0.true, c.len.ensures, page.objects.ok.0)) c.args.object c.args.i

pub returns : goal.returns
returns c =
    let page = c.args.self.now in
    written_page page.before.items page.after.items page.objects.items c.put_own.new.objects.items page.whole (omega (arith, c.if-len-eq0.false, c.len.ensures, page.objects.ok.0)) c.args.i (object_of c.args.object) c.put_own.ensures.put
