use Rattle.std.proofs.Common.{◌∙◌, ap, sym, arith, length}
use Rattle.pattern.specs.Parts.{parts}
use Rattle.pattern.specs.Patterns.{is_double_star, segment_matches}
use Rattle.pattern.proofs.WildLemmas.{step_same, step_later}
use Rattle.pattern.proofs.walk.piece.Goals as goal

pub loop-first-preserved : goal.loop-first-preserved
loop-first-preserved c =
    let i = c.loop-first.invariant in
    let qs = parts c.loop-first.pattern in
    let ys = parts c.loop-first.path in
    let p = c.in-Some.first.now in
    let ps = parts c.in-Some.rest in
    let x = c.in_ok-name.name.now in
    let xs = parts c.in_ok-name.after in
    let taken = c.in-Some.ensures in
    let one = ap length taken in
    record {
      same = i.same ∙ step_same is_double_star segment_matches qs ps ys xs p x taken c.in_ok-name.ensures (sym c.if-eq.ensures) (sym c.if-not-segment_matches.ensures);
      later = λ h. step_later is_double_star segment_matches qs ps ys xs p x taken c.in_ok-name.ensures (sym c.if-eq.ensures) (i.later h);
      shorter = omega (arith, i.shorter, one);
    }
