use Rattle.std.proofs.Common.{◌≡◌, Option, Ok, subst, ap}
use Rattle.values_semantics.specs.declared.val.Val.{Val}
use Rattle.syntax_tree.specs.View.{tree_of}
use Rattle.evaluator_semantics.specs.World.{Ends, ended, then_runs, pure}
use Rattle.evaluator_state.specs.declared.state.State.{State}
use Rattle.evaluator_state.specs.View.{world_of, here_of}
use Rattle.evaluator_frames.specs.declared.frame.Control.{Control}
use Rattle.evaluator_frames.specs.Immediate.{AtOnce, Costs}
use Rattle.evaluator_frames.specs.Frames.{a_value, Goes, on, ex, valued, above, stack_does, machine_does}
use Rattle.evaluator_frames.proofs.Immediate.{once_stops_below}
use Rattle.evaluator_frames.proofs.begin.begin.Goals as goal

pub returns-in-Ok-Some-clause-goes : goal.returns-in-Ok-Some-clause-goes
returns-in-Ok-Some-clause-goes c = λ env n running.
    let here = here_of c.args.at.now c.args.at.now.line running in
    let line = c.args.line in
    let h = on env n here line in
    let u = world_of c.at_once.new.state in
    let m = ex env n here (tree_of c.args.e.now) line (world_of c.args.state.now) in
    let says : m ≡ ended c.in-Ok-Some.x u = subst (λ (o : Option Val). AtOnce h.site m (Ok o) u) c.in-Ok-Some.field-0-is (c.in-Ok-Some.ensures.says env n line running) in
    ap (λ (o : Ends Val). then_runs (then_runs o (λ a. pure (a_value a))) (stack_does env n here c.args.frames.now.items)) says

pub returns-in-Ok-None-clause-goes : goal.returns-in-Ok-None-clause-goes
returns-in-Ok-None-clause-goes c = λ env n running.
    let here = here_of c.args.at.now c.args.at.now.line running in
    let line = c.args.line in
    let h = on env n here line in
    let after = λ (control : Control). machine_does env n here control c.begin_parts.new.frames.items (world_of c.begin_parts.new.state) in
    let same : c.at_once.new.state ≡ c.args.state.now = subst (λ (o : Option Val). Costs (Ok o) c.args.state.now c.at_once.new.state) c.in-Ok-None.field-0-is c.in-Ok-None.ensures.costs in
    subst (λ (s : State). Goes h.site (above env n here (valued (ex env n here (tree_of c.args.e.now) line)) c.args.frames.now.items (world_of s)) c.begin_parts.result after) same (c.begin_parts.ensures.goes env n running)

pub returns-in-Err-clause-goes : goal.returns-in-Err-clause-goes
returns-in-Err-clause-goes c = λ env n running.
    let here = here_of c.args.at.now c.args.at.now.line running in
    let line = c.args.line in
    let u = world_of c.at_once.new.state in
    let frames = c.args.frames.now.items in
    let m = ex env n here (tree_of c.args.e.now) line (world_of c.args.state.now) in
    let after = λ (control : Control). machine_does env n here control frames u in
    once_stops_below m (λ a. pure (a_value a)) (stack_does env n here frames) (on env n here line).site c.in-Err.halt u after (c.in-Err.ensures.says env n line running)
