use Rattle.std.proofs.Common.{subst, sym}
use Rattle.round.proofs.Walking.{IsWalking, walk_begins, walks_on, walk_ends}
use Rattle.round.proofs.cycles.walk.Goals as goal

pub steps-init : goal.steps-init
steps-init c = walk_begins c.args.stops.now c.args.start.now c.in_ok-at.at c.new-path.result.items c.new-path.ensures.items c.in_ok-at.ensures

pub steps-preserved : goal.steps-preserved
steps-preserved c = subst (λ path. IsWalking c.args.stops.now c.remove.new.self c.args.start.now path c.in-Some.next) (sym c.in_ok-push-in-Some.ensures.items)
    (walks_on c.args.stops.now c.steps.stops c.remove.new.self c.args.start.now c.steps.path.items c.steps.at c.in-Some.next c.steps.invariant c.in-Some.ensures.value c.in-Some.ensures.updates)

pub returns-in-None : goal.returns-in-None
returns-in-None c = walk_ends c.args.stops.now c.steps.stops c.remove.new.self c.args.start.now c.steps.path.items c.steps.at c.steps.invariant c.in-None.ensures.value c.in-None.ensures.updates
