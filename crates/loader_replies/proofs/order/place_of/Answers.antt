use Rattle.std.proofs.Common.{◌≡◌, ap, sym, ◌∙◌, arith}
use Rattle.std.specs.Ordering.{nat_cmp, is_gt}
use Rattle.std.specs.Cmp.Lexicographic.{slice_cmp}
use Rattle.loader_replies.specs.Order.{name_of}
use Rattle.loader_replies.proofs.Placing.{below_more, is_greater}
use Rattle.loader_replies.proofs.order.place_of.Goals as goal

pub loop-at-preserved : goal.loop-at-preserved
loop-at-preserved c =
    let named : c.as_str.result.now ≡ name_of c.index-rows-at.result = c.as_str.ensures.value ∙ ap name_of (sym c.index-rows-at.is) in
    record {
      within = omega (arith, c.loop-at-test.true);
      below = below_more c.args.name.now c.args.rows.now c.loop-at.at c.index-rows-at.result c.loop-at-test.true c.index-rows-at.is
          (is_greater c.gt.result c.args.name.now _ c.if-gt.true (c.gt.ensures ∙ ap (λ y. is_gt (slice_cmp nat_cmp c.args.name.now y)) named)) c.loop-at.invariant.below;
    }
