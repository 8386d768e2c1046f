use Rattle.std.proofs.Common.{◌≡◌, ◌+◌, ℕ, arith, ap, sym, subst}
use Rattle.evaluator_semantics.specs.World.{Ends, then_runs}
use Rattle.evaluator_state.specs.View.{world_of, here_of}
use Rattle.evaluator_frames.specs.declared.frame.Control.{Control}
use Rattle.evaluator_frames.specs.declared.frame.Control.TheVariants.{Suite}
use Rattle.evaluator_frames.specs.declared.frame.Ahead.{Ahead}
use Rattle.evaluator_frames.specs.Frames.{Sig, Goes, on, body, machine_does, stack_does, suite_line, suite_from}
use Rattle.evaluator_frames.specs.Weight.{frames_weight, control_weight}
use Rattle.evaluator_frames.specs.Ahead.{LeadsTo, LeadCosts, exited_as}
use Rattle.evaluator_frames.proofs.AtOnce.{led, led_lighter}
use Rattle.evaluator_frames.proofs.loops.next_stmt.Goals as goal

pub returns-then-i-next-clause-goes : goal.returns-then-i-next-clause-goes
returns-then-i-next-clause-goes c = λ env n running.
    let here = here_of c.args.at.now c.args.at.now.line running in
    let says = body env n here (suite_from c.args.next c.args.ss) (world_of c.args.state.now) in
    ap (λ q. then_runs (exited_as q) (stack_does env n here c.args.frames.now.items)) (subst (λ (a : Ahead). LeadsTo env n here c.args.ss says a (world_of c.ahead.new.state)) c.in-At.is (c.in-Ok.ensures.leads env n running))

pub returns-else-i-next-clause-goes : goal.returns-else-i-next-clause-goes
returns-else-i-next-clause-goes c = λ env n running.
    let here = here_of c.args.at.now c.args.at.now.line running in
    let says = body env n here (suite_from c.args.next c.args.ss) (world_of c.args.state.now) in
    let frames = c.args.frames.now.items in
    let after = λ (control : Control). machine_does env n here control c.stmt_above.new.frames.items (world_of c.stmt_above.new.state) in
    let costs = subst (λ (a : Ahead). LeadCosts c.args.next c.args.ss a c.args.state.now c.ahead.new.state) c.in-At.is c.in-Ok.ensures.costs in
    let same : c.in-At.i ≡ c.args.next = omega (arith, costs.0, c.if-i-next.false) in
    let before = ap (λ q. then_runs (exited_as q) (stack_does env n here frames)) (subst (λ (a : Ahead). LeadsTo env n here c.args.ss says a (world_of c.ahead.new.state)) c.in-At.is (c.in-Ok.ensures.leads env n running)) in
    let goes = subst (λ (q : Ends Sig). Goes (on env n here (suite_line (suite_from c.in-At.i c.args.ss))).site q c.stmt_above.result after) (sym before) (c.stmt_above.ensures.goes env n running) in
    subst (λ (k : ℕ). Goes (on env n here (suite_line (suite_from k c.args.ss))).site (machine_does env n here (Suite c.args.ss c.args.next) frames (world_of c.args.state.now)) c.stmt_above.result after) same goes

pub returns-in_default : goal.returns-in_default
returns-in_default c = record {
  goes = λ env n running.
      let here = here_of c.args.at.now c.args.at.now.line running in
      let says = body env n here (suite_from c.args.next c.args.ss) (world_of c.args.state.now) in
      let after = λ (control : Control). machine_does env n here control c.lead.new.frames.items (world_of c.ahead.new.state) in
      led (on env n here (suite_line (suite_from c.args.next c.args.ss))).site (then_runs (exited_as says) (stack_does env n here c.args.frames.now.items)) c.lead.result after (c.lead.ensures.goes env n here says (world_of c.ahead.new.state) (c.in-Ok.ensures.leads env n running)) c.lead.ensures.err;
  lighter = led_lighter c.args.next c.args.ss c.in-Ok.ahead c.lead.result c.args.state.now c.ahead.new.state (frames_weight c.args.frames.now.items) (λ control. frames_weight c.lead.new.frames.items + control_weight control) c.in_default.not-At c.in-Ok.ensures.costs c.lead.ensures.weight;
}
