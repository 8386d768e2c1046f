use Rattle.std.proofs.Common.{◌+◌, sym, subst, take, []}
use Rattle.round.proofs.Rotations.{IsBest, best_one, stays, moves, best_within, best_below, best_rotates, best_of_all, taken_length, not_empty}
use Rattle.round.proofs.cycles.least_place.Goals as goal
use Rattle.round.proofs.cycles.least_place.Goals.{then-not-is_not_after, else-not-is_not_after}

pub loop-at-init : goal.loop-at-init
loop-at-init c =
    let b = best_one c.args.labels.now (not_empty c.args.labels.now c.if-is_empty.ensures) in
    record { best = b; below = best_below c.args.labels.now 1 0 b }

pub loop-at-preserved : goal.loop-at-preserved
loop-at-preserved c =
    let i = c.loop-at.invariant in
    let b : IsBest (take (c.loop-at.at + 1) c.args.labels.now) c.if-not-is_not_after.best = elim c.if-not-is_not_after.branch [
      | then-not-is_not_after w ↦ subst (IsBest (take (c.loop-at.at + 1) c.args.labels.now)) (sym w.best-is)
          (moves c.args.labels.now c.loop-at.at c.loop-at.best [] c.index-labels-at.result c.index-labels-best.result c.index-labels-at.is c.loop-at-test.true i.best c.index-labels-best.is
          (taken_length c.args.labels.now c.loop-at.at c.loop-at-test.true) (sym w.if-not-is_not_after.ensures))
      | else-not-is_not_after w ↦ subst (IsBest (take (c.loop-at.at + 1) c.args.labels.now)) (sym w.best-is)
          (stays c.args.labels.now c.loop-at.at c.loop-at.best [] c.index-labels-at.result c.index-labels-best.result c.index-labels-at.is c.loop-at-test.true i.best c.index-labels-best.is
          (sym w.if-not-is_not_after.ensures))
    ] in
    record { best = b; below = best_below c.args.labels.now (c.loop-at.at + 1) c.if-not-is_not_after.best b }

pub returns-clause-within : goal.returns-clause-within
returns-clause-within c = best_within c.args.labels.now c.loop-at.best (best_of_all c.args.labels.now c.loop-at.at c.loop-at.best c.loop-at.invariant.best c.loop-at-test.false)

pub returns-clause-least : goal.returns-clause-least
returns-clause-least c = best_rotates c.args.labels.now c.loop-at.best (best_of_all c.args.labels.now c.loop-at.at c.loop-at.best c.loop-at.invariant.best c.loop-at-test.false)
