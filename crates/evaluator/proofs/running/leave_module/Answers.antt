use Rattle.std.proofs.Common.{[], ap, sym}
use Rattle.evaluator_state.specs.declared.state.Position.{Position}
use Rattle.syntax_tree.specs.Statements.{file_of}
use Rattle.evaluator_state.specs.View.{world_of}
use Rattle.evaluator_semantics.specs.World.{then_runs, pure}
use Rattle.evaluator_semantics.specs.Files.{a_module, file_level, frozen_module}
use Rattle.evaluator.specs.Machines.{env_of}
use Rattle.evaluator.proofs.Ending.{stop_left, module_left, module_fails}
use Rattle.evaluator.proofs.running.leave_module.Goals as goal

pub returns-in-Ok : goal.returns-in-Ok
returns-in-Ok c =
    let env = env_of c.args.e.now in
    let at = c.in_ok-at.at in
    let is = c.in_ok-at.ensures in
    module_left env at (world_of c.args.state.now) (world_of c.frozen_module.new.state) c.in-Ok.loaded is (c.in-Ok.ensures.says env 0 [] (sym (ap (λ (s : Position). s.label) is)) (sym (ap (λ (s : Position). s.path) is)) (ap file_of (sym c.deref.ensures)) (sym c.as_slice.ensures.value))

pub returns : goal.returns
returns c =
    let env = env_of c.args.e.now in
    let at = c.in_ok-at.at in
    let is = c.in_ok-at.ensures in
    let w = world_of c.args.state.now in
    let ran = c.in-Err.ensures.says env 0 [] (sym (ap (λ (s : Position). s.label) is)) (sym (ap (λ (s : Position). s.path) is)) (ap file_of (sym c.deref.ensures)) (sym c.as_slice.ensures.value) in
    stop_left (then_runs (frozen_module env (file_level env) w) (λ m. pure (a_module m))) c.stop_in.result c.stopped.result (module_fails env at w (world_of c.frozen_module.new.state) c.in-Err.halt c.stop_in.result is ran c.stop_in.ensures) c.stopped.ensures
