use Rattle.std.proofs.Common.{sym, ap, ◌∙◌, arith}
use Rattle.std.specs.Prelude.{slice_get}
use Rattle.std.proofs.lemmas.Option.{slice_get-map}
use Rattle.values_objects.specs.ObjectBytes.{standing_bytes}
use Rattle.values_objects.specs.Standings.{standing_of}
use Rattle.values_objects.proofs.WholePages.{no_bytes_there, same_page, standing_page}
use Rattle.values_objects.proofs.pages.Page.free.Goals as goal

pub returns-then-len-eq0-clause-bytes : goal.returns-then-len-eq0-clause-bytes
returns-then-len-eq0-clause-bytes c =
    let page = c.args.self.now in
    no_bytes_there page.before.items page.after.items page.objects.items page.whole (omega (arith, c.if-len-eq0.true, c.len.ensures, page.objects.ok.0)) c.args.i

pub returns-clause-same : goal.returns-clause-same
returns-clause-same c =
    let page = c.args.self.now in
    same_page page.before.items page.after.items page.objects.items c.free_own.new.objects.items c.free_own.ensures.same

pub returns-clause-bytes : goal.returns-clause-bytes
returns-clause-bytes c =
    let page = c.args.self.now in
    let is = standing_page page.before.items page.after.items page.objects.items page.whole (omega (arith, c.if-len-eq0.false, c.len.ensures, page.objects.ok.0)) in
    c.free_own.ensures.bytes ∙ ap standing_bytes (sym (ap (λ l. slice_get l c.args.i) is ∙ slice_get-map standing_of page.objects.items c.args.i))
