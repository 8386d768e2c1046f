use Rattle.evaluator_semantics.specs.World.{pure}
use Rattle.evaluator_semantics.specs.Targets.{to_name, store}
use Rattle.evaluator_semantics.specs.Statements as s
use Rattle.evaluator_semantics.specs.Statements.{goes_on}
use Rattle.evaluator_state.specs.View.{world_of, here_of}
use Rattle.evaluator_frames.specs.declared.frame.Control.{Control}
use Rattle.evaluator_frames.specs.Frames.{an_exit, on, stack_does, machine_does}
use Rattle.evaluator_frames.proofs.Suites.{stops3}
use Rattle.evaluator_frames.proofs.handing.assign_name.Goals as goal

pub returns-in-Err-clause-goes : goal.returns-in-Err-clause-goes
returns-in-Err-clause-goes c = λ env n running frames.
    let here = here_of c.args.at.now c.args.at.now.line running in
    let w = world_of c.args.state.now in
    let h = on env n here c.args.line in
    let after = λ (control : Control). machine_does env n here control frames (world_of c.bind.new.state) in
    stops3 (store (to_name c.args.name.now) c.args.x h w) (λ _. pure goes_on) (λ (x : s.Exit). pure (an_exit x)) (stack_does env n here frames) h.site c.in-Err.halt (world_of c.bind.new.state) after (c.in-Err.ensures.says c.args.line running)
