use Rattle.evaluator_semantics.specs.World.{pure}
use Rattle.evaluator_semantics.specs.Targets.{store}
use Rattle.evaluator_semantics.specs.Statements as s
use Rattle.evaluator_state.specs.View.{world_of, here_of}
use Rattle.evaluator_state.specs.AimView.{aim_of}
use Rattle.evaluator_frames.specs.declared.frame.Control.{Control}
use Rattle.evaluator_frames.specs.Frames.{an_exit, on, body, shared_suite, turns_behind, stack_does, machine_does}
use Rattle.evaluator_frames.proofs.Suites.{stops4}
use Rattle.evaluator_frames.proofs.completions.begin_body.Goals as goal

pub returns-in-Err-clause-goes : goal.returns-in-Err-clause-goes
returns-in-Err-clause-goes c = λ env n running.
    let here = here_of c.args.at.now c.args.at.now.line running in
    let line = c.args.turns.value.line in
    let h = on env n here line in
    let w = world_of c.args.state.now in
    let frames = c.args.frames.now.items in
    let after = λ (control : Control). machine_does env n here control frames (world_of c.store.new.state) in
    stops4 (store (aim_of c.args.aim) c.args.x h w) (λ _. body env n here (shared_suite c.args.turns.value.body)) (turns_behind env n here c.args.turns.value) (λ (x : s.Exit). pure (an_exit x)) (stack_does env n here frames) h.site c.in-Err.halt (world_of c.store.new.state) after (c.in-Err.ensures.says line running)
