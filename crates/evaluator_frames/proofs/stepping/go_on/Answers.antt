use Rattle.std.proofs.Common.{◌≡◌, IfOk, sym, subst}
use Rattle.evaluator_semantics.specs.World.{Ends}
use Rattle.evaluator_state.specs.View.{world_of, here_of}
use Rattle.evaluator_frames.specs.declared.frame.Control.{Control}
use Rattle.evaluator_frames.specs.Frames.{Sig, on, control_line, machine_does}
use Rattle.evaluator_frames.proofs.AtOnce.{led}
use Rattle.evaluator_frames.proofs.stepping.go_on.Goals as goal

pub returns-in-Ok-clause-goes : goal.returns-in-Ok-clause-goes
returns-in-Ok-clause-goes c = λ env n running.
    let here = here_of c.args.at.now c.args.at.now.line running in
    let before = machine_does env n here c.args.control c.args.frames.now.items (world_of c.args.state.now) in
    let after = λ (control : Control). machine_does env n here control c.onward.new.frames.items (world_of c.onward.new.state) in
    led (on env n here (control_line c.args.at.now.line c.args.control)).site before c.onward.result after (subst (λ (q : Ends Sig). IfOk c.onward.result (λ next. q ≡ after next)) (sym (c.in-Ok.ensures.goes env n running)) (c.onward.ensures.goes env n running)) c.onward.ensures.err
