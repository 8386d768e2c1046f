use Rattle.std.proofs.Common.{get_or, set, ap, ◌∙◌, arith}
use Rattle.std.proofs.lemmas.List.{get_or_default}
use Rattle.std.proofs.lemmas.List.Edits.{map_over_more}
use Rattle.values_methods.specs.Texts.{exchanged}
use Rattle.values_methods.proofs.splitting.exchange_each.Goals as goal

pub loop-byte-preserved : goal.loop-byte-preserved
loop-byte-preserved c =
    let l = c.loop-byte in
    ap (set l.byte-items l.byte-index) c.exchanged.ensures
    ∙ map_over_more (exchanged c.args.old c.args.new) _ l.byte-items l.byte-index (get_or l.byte-items l.byte-index 0) c.loop-byte-test.true l.invariant (get_or_default l.byte-items l.byte-index _ _ (omega (arith, c.loop-byte-test.true, l.auto.byte-items)))
