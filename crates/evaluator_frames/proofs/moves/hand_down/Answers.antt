use Rattle.std.proofs.Common.{sym, subst}
use Rattle.evaluator_semantics.specs.World.{Ends}
use Rattle.evaluator_state.specs.View.{world_of, here_of}
use Rattle.evaluator_frames.specs.declared.frame.Control.{Control}
use Rattle.evaluator_frames.specs.Frames.{Sig, Goes, sig_of, on, frame_line, machine_does}
use Rattle.evaluator_frames.proofs.Topmost.{handed_down}
use Rattle.evaluator_frames.proofs.moves.hand_down.Goals as goal

pub returns-clause-goes : goal.returns-clause-goes
returns-clause-goes c = λ env n running.
    let here = here_of c.args.at.now c.args.at.now.line running in
    let w = world_of c.args.state.now in
    let after = λ (control : Control). machine_does env n here control c.hand_on.new.frames.items (world_of c.hand_on.new.state) in
    subst (λ (q : Ends Sig). Goes (on env n here (frame_line c.args.at.now.line c.args.frame)).site q c.hand_on.result after) (sym (handed_down env n here c.args.frames.now.items c.args.frame (sig_of c.args.signal) w c.requires)) (c.hand_on.ensures.goes env n running)
