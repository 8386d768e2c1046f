use Rattle.std.specs.Arc.{arc_value}
use Rattle.evaluator_semantics.specs.World.{pure}
use Rattle.evaluator_semantics.specs.Names.{bind}
use Rattle.evaluator_semantics.specs.Loops as l
use Rattle.evaluator_state.specs.View.{world_of, here_of}
use Rattle.evaluator_state.specs.AimView.{gathered_of}
use Rattle.evaluator_frames.specs.declared.frame.Control.{Control}
use Rattle.evaluator_frames.specs.Frames.{a_gathered, on, clauses_do, gather_from, stack_does, machine_does}
use Rattle.evaluator_frames.proofs.Suites.{stops4}
use Rattle.evaluator_frames.proofs.gather.gather_named.Goals as goal

pub returns-in-Err-clause-goes : goal.returns-in-Err-clause-goes
returns-in-Err-clause-goes c = λ env n running.
    let here = here_of c.args.at.now c.args.at.now.line running in
    let line = c.args.turns.value.line in
    let h = on env n here line in
    let w = world_of c.args.state.now in
    let frames = c.args.frames.now.items in
    let after = λ (control : Control). machine_does env n here control frames (world_of c.bind.new.state) in
    stops4 (bind c.args.name.now c.args.x h w) (λ _. clauses_do env n here (arc_value c.args.turns.value.of) c.args.turns.value.inner line (gathered_of c.args.got.value)) (gather_from env n here c.args.turns.value) (λ (x : l.Collection). pure (a_gathered x)) (stack_does env n here frames) h.site c.in-Err.halt (world_of c.bind.new.state) after (c.in-Err.ensures.says line running)
