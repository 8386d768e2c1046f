use Rattle.std.proofs.Common.{sym, subst}
use Rattle.evaluator_state.specs.View.{world_of, here_of}
use Rattle.evaluator_frames.specs.declared.frame.Control.{Control}
use Rattle.evaluator_frames.specs.declared.frame.Signal.{Signal}
use Rattle.evaluator_frames.specs.Frames.{sig_of, Goes, on, frame_does, frame_line, above, machine_does}
use Rattle.evaluator_frames.proofs.handing.deliver.Goals as goal

pub returns-in-Value-clause-goes : goal.returns-in-Value-clause-goes
returns-in-Value-clause-goes c = λ env n running.
    let here = here_of c.args.at.now c.args.at.now.line running in
    let w = world_of c.args.state.now in
    let frames = c.args.frames.now.items in
    let after = λ (control : Control). machine_does env n here control c.deliver_value.new.frames.items (world_of c.deliver_value.new.state) in
    subst (λ (s : Signal). Goes (on env n here (frame_line c.args.at.now.line c.args.frame)).site (above env n here (frame_does env n here c.args.frame (sig_of s)) frames w) c.deliver_value.result after) (sym c.in-Value.is) (c.deliver_value.ensures.goes env n running)

pub returns-in-Aim-clause-goes : goal.returns-in-Aim-clause-goes
returns-in-Aim-clause-goes c = λ env n running.
    let here = here_of c.args.at.now c.args.at.now.line running in
    let w = world_of c.args.state.now in
    let frames = c.args.frames.now.items in
    let after = λ (control : Control). machine_does env n here control c.deliver_aim.new.frames.items (world_of c.deliver_aim.new.state) in
    subst (λ (s : Signal). Goes (on env n here (frame_line c.args.at.now.line c.args.frame)).site (above env n here (frame_does env n here c.args.frame (sig_of s)) frames w) c.deliver_aim.result after) (sym c.in-Aim.is) (c.deliver_aim.ensures.goes env n running)

pub returns-in-Exit-clause-goes : goal.returns-in-Exit-clause-goes
returns-in-Exit-clause-goes c = λ env n running.
    let here = here_of c.args.at.now c.args.at.now.line running in
    let w = world_of c.args.state.now in
    let frames = c.args.frames.now.items in
    let after = λ (control : Control). machine_does env n here control c.args.frames.now.items (world_of c.deliver_exit.new.state) in
    subst (λ (s : Signal). Goes (on env n here (frame_line c.args.at.now.line c.args.frame)).site (above env n here (frame_does env n here c.args.frame (sig_of s)) frames w) c.deliver_exit.result after) (sym c.in-Exit.is) (c.deliver_exit.ensures.goes env n running)

pub returns-in-Gathered-clause-goes : goal.returns-in-Gathered-clause-goes
returns-in-Gathered-clause-goes c = λ env n running.
    let here = here_of c.args.at.now c.args.at.now.line running in
    let w = world_of c.args.state.now in
    let frames = c.args.frames.now.items in
    let after = λ (control : Control). machine_does env n here control c.args.frames.now.items (world_of c.deliver_gathered.new.state) in
    subst (λ (s : Signal). Goes (on env n here (frame_line c.args.at.now.line c.args.frame)).site (above env n here (frame_does env n here c.args.frame (sig_of s)) frames w) c.deliver_gathered.result after) (sym c.in-Gathered.is) (c.deliver_gathered.ensures.goes env n running)
