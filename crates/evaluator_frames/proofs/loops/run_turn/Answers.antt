use Rattle.std.proofs.Common.{◌≡◌, ap, sym, subst, ◌∙◌}
use Rattle.std.specs.Arc.{arc_value}
use Rattle.evaluator_semantics.specs.World.{Ends, ended, then_runs, pure}
use Rattle.evaluator_semantics.specs.Statements as s
use Rattle.evaluator_state.specs.View.{world_of, here_of}
use Rattle.evaluator_frames.specs.declared.frame.Control.{Control}
use Rattle.evaluator_frames.specs.declared.frame.Turns.{Turns}
use Rattle.evaluator_frames.specs.Frames.{Sig, Goes, an_exit, on, body, shared_suite, turns_behind, stack_does, machine_does}
use Rattle.evaluator_frames.specs.declared.frame.Ahead.{Ahead}
use Rattle.evaluator_frames.specs.Ahead.{LeadsTo, exited_as}
use Rattle.evaluator_frames.proofs.AtOnce.{led, handed_exit, same_suite}
use Rattle.evaluator_frames.proofs.loops.run_turn.Goals as goal

pub returns-in-Ok-Ended-clause-goes : goal.returns-in-Ok-Ended-clause-goes
returns-in-Ok-Ended-clause-goes c = λ env n running.
    let here = here_of c.args.at.now c.args.at.now.line running in
    let u = c.args.turns.value in
    let h = on env n here u.line in
    let bound = world_of c.args.state.now in
    let after = world_of c.ahead.new.state in
    let j = stack_does env n here c.args.frames.now.items in
    let p = λ (x : s.Exit). pure (an_exit x) in
    let ss = c.deref.result.now.body in
    let rest = turns_behind env n here u in
    let says = body env n here (shared_suite ss) bound in
    let ends : says ≡ ended s.goes_on after = subst (λ (a : Ahead). LeadsTo env n here ss says a after) c.in-Ok-Ended.field-0-is (c.in-Ok-Ended.ensures.leads env n running) in
    ap (λ (d : Turns). then_runs (then_runs (then_runs (body env n here (shared_suite d.body) bound) rest) p) j) (sym c.deref.ensures)
    ∙ ap (λ q. then_runs (then_runs (then_runs q rest) p) j) ends

pub returns-in_ok-push-in-Ok-clause-goes : goal.returns-in_ok-push-in-Ok-clause-goes
returns-in_ok-push-in-Ok-clause-goes c = λ env n running.
    let here = here_of c.args.at.now c.args.at.now.line running in
    let u = c.args.turns.value in
    let h = on env n here u.line in
    let bound = world_of c.args.state.now in
    let frames = c.args.frames.now.items in
    let pushed = c.push.new.frames.items in
    let j = stack_does env n here frames in
    let p = λ (x : s.Exit). pure (an_exit x) in
    let ss = c.deref.result.now.body in
    let again = ap (λ (d : Turns). arc_value d.body) (c.deref.ensures ∙ sym c.deref-in-Ok.ensures) ∙ sym c.in_ok-body-in-Ok.ensures in
    let leads = same_suite env n here ss c.in_ok-body-in-Ok.body (body env n here (shared_suite ss) bound) c.in-Ok.ahead (world_of c.ahead.new.state) again (c.in-Ok.ensures.leads env n running) in
    let pushed_is = c.in_ok-push-in-Ok.ensures.ok env n here in
    let rest = turns_behind env n here u in
    let says = body env n here (shared_suite ss) bound in
    let before =
    ap (λ (d : Turns). then_runs (then_runs (then_runs (body env n here (shared_suite d.body) bound) rest) p) j) (sym c.deref.ensures)
    ∙ handed_exit env n here c.args.turns frames pushed says pushed_is in
    let after = λ (control : Control). machine_does env n here control c.lead.new.frames.items (world_of c.ahead.new.state) in
    let goes = led h.site (then_runs (exited_as says) (stack_does env n here pushed)) c.lead.result after (c.lead.ensures.goes env n here says (world_of c.ahead.new.state) leads) c.lead.ensures.err in
    subst (λ (q : Ends Sig). Goes h.site q c.lead.result after) (sym before) goes
