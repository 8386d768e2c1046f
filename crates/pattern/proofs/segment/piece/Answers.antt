use Rattle.std.proofs.Common.{◌∙◌, arith, eqb}
use Rattle.std.proofs.lemmas.Bool.{ne_eqb, eq-eqb}
use Rattle.pattern.specs.Patterns.{is_star}
use Rattle.pattern.proofs.WildLemmas.{step_same, step_later}
use Rattle.pattern.proofs.segment.piece.Goals as goal

pub loop-first-preserved : goal.loop-first-preserved
loop-first-preserved c =
    let i = c.loop-first.invariant in
    let qs = c.loop-first.pattern.now in
    let ys = c.loop-first.name.now in
    let p = c.in-Some.first.now in
    let ps = c.in-Some.rest.now in
    let x = c.in-Some-split_first.byte.now in
    let xs = c.in-Some-split_first.after.now in
    let plain = ne_eqb p 42 c.if-first-eq42.false in
    let fit = eq-eqb p x c.if-first-byte.true in
    record {
      same = i.same ∙ step_same is_star eqb qs ps ys xs p x c.in-Some.ensures.cases.0 c.in-Some-split_first.ensures.cases.0 plain fit;
      later = λ h. step_later is_star eqb qs ps ys xs p x c.in-Some.ensures.cases.0 c.in-Some-split_first.ensures.cases.0 plain (i.later h);
      shorter = omega (arith, i.shorter, c.in-Some.ensures.cases.1);
    }
