use Rattle.std.proofs.Common.{◌≡◌, Option, Ok, Err, sym, subst, ap, ◌∙◌}
use Rattle.std.specs.Arc.{arc_value}
use Rattle.values_semantics.specs.declared.val.Val.{Val}
use Rattle.syntax_tree.specs.declared.expr.Expr.{Expr}
use Rattle.syntax_tree.specs.View.{tree_of, shared_tree}
use Rattle.evaluator_semantics.specs.World.{Ends, ended, then_runs, pure}
use Rattle.evaluator_state.specs.declared.state.State.{State}
use Rattle.evaluator_state.specs.View.{world_of, here_of}
use Rattle.evaluator_frames.specs.declared.frame.Control.{Control}
use Rattle.evaluator_frames.specs.Immediate.{AtOnce, Costs}
use Rattle.evaluator_frames.specs.Frames.{Sig, a_value, Goes, on, ex, frame_does, above, stack_does, machine_does}
use Rattle.evaluator_frames.proofs.Bind.{handed}
use Rattle.evaluator_frames.proofs.Immediate.{once_stops}
use Rattle.evaluator_frames.proofs.once.value_above.Goals as goal

pub returns-in-Ok-Some-clause-goes : goal.returns-in-Ok-Some-clause-goes
returns-in-Ok-Some-clause-goes c = λ env n running before calls stands is.
    let here = here_of c.args.at.now c.args.at.now.line running in
    let line = c.args.line in
    let h = on env n here line in
    let w = world_of c.args.state.now in
    let u = world_of c.at_once.new.state in
    let pushed = c.push.new.frames.items in
    let m = λ (d : Expr). ex env n here (tree_of d) line w in
    let wrapped = λ (o : Ends Val). then_runs (then_runs o (λ a. pure (a_value a))) (stack_does env n here pushed) in
    let says : m c.deref.result.now ≡ ended c.in-Ok-Some.x u = subst (λ (o : Option Val). AtOnce h.site (m c.deref.result.now) (Ok o) u) c.in-Ok-Some.field-0-is (c.in-Ok-Some.ensures.says env n line running) in
    is ∙ handed env n here c.args.frame c.args.frames.now.items pushed a_value (ex env n here (shared_tree c.args.e.now) line w) (c.in_ok-push.ensures.ok env n here) calls stands
    ∙ ap (λ (d : Expr). wrapped (m d)) (sym c.deref.ensures)
    ∙ ap wrapped says

pub returns-in_ok-try_clone-in-Ok-None-clause-goes : goal.returns-in_ok-try_clone-in-Ok-None-clause-goes
returns-in_ok-try_clone-in-Ok-None-clause-goes c = λ env n running before calls stands is.
    let here = here_of c.args.at.now c.args.at.now.line running in
    let line = c.args.line in
    let w = world_of c.args.state.now in
    let pushed = c.push.new.frames.items in
    let runs = λ (d : Expr) (s : State). then_runs (then_runs (ex env n here (tree_of d) line (world_of s)) (λ a. pure (a_value a))) (stack_does env n here pushed) in
    let same : c.at_once.new.state ≡ c.args.state.now = subst (λ (o : Option Val). Costs (Ok o) c.args.state.now c.at_once.new.state) c.in-Ok-None.field-0-is c.in-Ok-None.ensures.costs in
    is ∙ handed env n here c.args.frame c.args.frames.now.items pushed a_value (ex env n here (shared_tree c.args.e.now) line w) (c.in_ok-push.ensures.ok env n here) calls stands
    ∙ ap (λ (d : Expr). runs d c.args.state.now) (sym c.in_ok-try_clone-in-Ok-None.ensures)
    ∙ ap (λ (s : State). runs (arc_value c.in_ok-try_clone-in-Ok-None.field-0) s) (sym same)

pub returns-in-Err-clause-goes : goal.returns-in-Err-clause-goes
returns-in-Err-clause-goes c = λ env n running before calls stands is.
    let here = here_of c.args.at.now c.args.at.now.line running in
    let line = c.args.line in
    let h = on env n here line in
    let w = world_of c.args.state.now in
    let u = world_of c.at_once.new.state in
    let m = λ (d : Expr). ex env n here (tree_of d) line w in
    let behind = λ (v : Val). above env n here (frame_does env n here c.args.frame (a_value v)) c.args.frames.now.items in
    let after = λ (control : Control). machine_does env n here control c.push.new.frames.items u in
    subst (λ (q : Ends Sig). Goes h.site q (Err c.in-Err.halt) after) (sym (is ∙ ap (λ (d : Expr). then_runs (m d) behind) (sym c.deref.ensures)))
    (once_stops (m c.deref.result.now) behind h.site c.in-Err.halt u after (c.in-Err.ensures.says env n line running))
