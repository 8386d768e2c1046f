use Rattle.std.proofs.Common.{ℕ, Err, ap, sym, subst, ◌∙◌}
use Rattle.values_objects.specs.declared.halt.Halt.{Halt}
use Rattle.evaluator_semantics.specs.World.{failed}
use Rattle.evaluator_state.specs.View.{world_of, here_of}
use Rattle.evaluator_frames.specs.declared.frame.Control.{Control}
use Rattle.evaluator_frames.specs.Frames.{Goes, sig_of, on, frame_does, frame_line, above, machine_does}
use Rattle.evaluator_frames.proofs.Topmost.{handed_down}
use Rattle.evaluator_frames.proofs.moves.handed.Goals as goal

pub returns-in-Ok-clause-goes : goal.returns-in-Ok-clause-goes
returns-in-Ok-clause-goes c = λ env n running.
    let here = here_of c.args.at.now c.args.at.now.line running in
    handed_down env n here c.args.frames.now.items c.args.frame (sig_of c.args.signal) (world_of c.args.state.now) c.requires
    ∙ c.in-Ok.ensures.goes env n running

pub returns-in-Err-Code-clause-goes : goal.returns-in-Err-Code-clause-goes
returns-in-Err-Code-clause-goes c = λ env n running.
    let here = here_of c.args.at.now c.args.at.now.line running in
    let site = (on env n here (frame_line c.args.at.now.line c.args.frame)).site in
    let before = above env n here (frame_does env n here c.args.frame (sig_of c.args.signal)) c.args.frames.now.items (world_of c.args.state.now) in
    let after = λ (control : Control). machine_does env n here control c.deliver.new.frames.items (world_of c.deliver.new.state) in
    handed_down env n here c.args.frames.now.items c.args.frame (sig_of c.args.signal) (world_of c.args.state.now) c.requires
    ∙ subst (λ (h : Halt). Goes site before (Err h) after) c.in-Err-Code.field-0-is (c.in-Err-Code.ensures.goes env n running)
    ∙ ap (λ (line : ℕ). failed c.in-Err-Code.code (on env n here line).site) (sym c.frame_line-line.ensures)
