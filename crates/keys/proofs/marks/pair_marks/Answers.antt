use Rattle.std.proofs.Common.{◌∙◌, ap, sym, bit_or}
use Rattle.std.proofs.lemmas.List.{nil_from_length}
use Rattle.keys.specs.Marks.{pair_marks}
use Rattle.keys.proofs.MarkLaws.{mark_first, marked}
use Rattle.keys.proofs.marks.pair_marks.Goals as goal

pub loop-first-preserved-in-Some-first : goal.loop-first-preserved-in-Some-first
loop-first-preserved-in-Some-first c =
    ap (λ n. bit_or (bit_or c.loop-first.marks n) (pair_marks c.in-Some.others.now)) c.pair_bit-marks.ensures
    ∙ mark_first c.loop-first.marks c.in-Some.first.now c.in-Some-first.second.now c.loop-first.rest.now c.in-Some.others.now c.args.name.now c.loop-first.auto.marks-fits.fits c.in-Some.ensures.cases.0 (sym c.in-Some-first.ensures.value) c.loop-first.invariant

pub returns : goal.returns
returns c = marked c.loop-first.marks c.loop-first.rest.now c.args.name.now (nil_from_length c.loop-first.rest.now c.in_default.ensures.cases) c.loop-first.invariant
