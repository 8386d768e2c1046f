use Rattle.std.proofs.Common.{length, [], ◌∷◌, ◌++◌, ap, ◌∙◌, arith}
use Rattle.values_objects.proofs.WholePages.{has_size, whole_back}
use Rattle.values_objects.proofs.pages.Page.give_back.Goals as goal

pub invariant_of-self : goal.invariant_of-self
invariant_of-self c =
    let page = c.args.self.now in
    let size = has_size page.before.items page.objects.items page.whole (omega (arith, c.if-len-eq0.false, c.len.ensures, page.objects.ok.0)) in
    record { whole = whole_back page.objects c.and-self.result.items c.new-2.result.items (c.and-self.ensures ∙ ap (λ l. l ++ (page.objects, tt) ∷ []) c.new.ensures) (ap length c.new-2.ensures.items) size }
