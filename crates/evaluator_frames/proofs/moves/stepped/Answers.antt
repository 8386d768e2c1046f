use Rattle.std.proofs.Common.{ℕ, Err, ap, sym, subst, ◌∙◌}
use Rattle.values_objects.specs.declared.halt.Halt.{Halt}
use Rattle.evaluator_semantics.specs.World.{failed}
use Rattle.evaluator_state.specs.View.{world_of, here_of}
use Rattle.evaluator_frames.specs.declared.frame.Control.{Control}
use Rattle.evaluator_frames.specs.Frames.{Goes, on, control_line, machine_does}
use Rattle.evaluator_frames.proofs.moves.stepped.Goals as goal

pub returns-in-Err-Code-clause-goes : goal.returns-in-Err-Code-clause-goes
returns-in-Err-Code-clause-goes c = λ env n running.
    let here = here_of c.args.at.now c.args.at.now.line running in
    let site = (on env n here (control_line c.args.at.now.line c.args.control)).site in
    let before = machine_does env n here c.args.control c.args.frames.now.items (world_of c.args.state.now) in
    let after = λ (control : Control). machine_does env n here control c.step.new.frames.items (world_of c.step.new.state) in
    subst (λ (h : Halt). Goes site before (Err h) after) c.in-Err-Code.field-0-is (c.in-Err-Code.ensures.goes env n running)
    ∙ ap (λ (line : ℕ). failed c.in-Err-Code.code (on env n here line).site) (sym c.control_line-line.ensures)
