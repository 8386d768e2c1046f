use Rattle.std.proofs.Common.{sym, ◌∙◌, ap}
use Rattle.shelf.specs.Rules.{publish_of}
use Rattle.shelf.proofs.Adding.{adds_moves}
use Rattle.shelf.proofs.history.Prefix.append.Goals as goal

pub compare_exchange-found-requires : goal.compare_exchange-found-requires
compare_exchange-found-requires c =
    let h = c.requires.end in
    let offer = c.plain-offer.ensures in
    let pen = c.no_pen-pen.ensures in
    let was = c.again-known.ensures in
    let me = c.args.self.now in (
      ap (λ w. w.tracked) h,
      ap (λ s. s.book) was ∙ sym (ap (λ w. w.book) h),
      pen.0 ∙ (ap (λ s. s.book) was ∙ sym (ap (λ w. w.book) h)),
      offer.0,
      rw (ap (λ w. w.key) h, pen.1, offer.1, offer.3, ap (λ s. s.log) was) (adds_moves me.known.log (publish_of c.args.batch.now) me.count (sym me.counted) c.requires.version),
    )
