use Rattle.std.proofs.Common.{ap, subst, ◌∙◌}
use Rattle.evaluator_semantics.specs.World.{then_runs}
use Rattle.evaluator_frames.specs.declared.frame.Ahead.{Ahead}
use Rattle.evaluator_frames.specs.Frames.{stack_does}
use Rattle.evaluator_frames.specs.Ahead.{LeadsTo}
use Rattle.evaluator_frames.proofs.ahead.lead.Goals as goal

pub returns-then-leaves-clause-goes : goal.returns-then-leaves-clause-goes
returns-then-leaves-clause-goes c = λ env n here says u leads.
    let left = subst (λ (a : Ahead). LeadsTo env n here c.args.ss says a u) c.in-Above.is leads in
    ap (λ q. then_runs q (stack_does env n here c.args.frames.now.items)) (left ∙ c.leaves.ensures.means c.if-leaves.true env n here c.args.ss c.in-Above.i u)
