use Rattle.std.proofs.Common.{◌∙◌, ap, bit_or}
use Rattle.std.proofs.lemmas.List.{nil_from_length}
use Rattle.functions_directories.specs.SegmentMarks.{wanted_marks}
use Rattle.functions_directories.proofs.MarkedNames.{front_first, nothing_left}
use Rattle.functions_directories.proofs.name_marks.wanted_marks.Goals as goal

pub loop-first-preserved : goal.loop-first-preserved
loop-first-preserved c =
    ap (λ n. bit_or (bit_or c.loop-first.marks n) (wanted_marks c.in-Some.others.now)) c.wanted_front-marks.ensures
    ∙ front_first c.loop-first.marks c.in-Some.first.now c.loop-first.rest.now c.in-Some.others.now c.args.segment.now c.loop-first.auto.marks-fits.fits c.in-Some.ensures.cases.0 c.loop-first.invariant

pub returns : goal.returns
returns c = nothing_left c.loop-first.marks c.loop-first.rest.now c.args.segment.now (nil_from_length c.loop-first.rest.now c.in_default.ensures.cases) c.loop-first.invariant
