use Rattle.std.proofs.Common.{◌≡◌, ◌++◌, ◌∷◌, [], ℕ, Err, sym, subst}
use Rattle.evaluator_semantics.specs.Environment.{Env}
use Rattle.evaluator_semantics.specs.Laws.{with_answers}
use Rattle.evaluator_state.specs.View.{world_of}
use Rattle.evaluator_calls.specs.View.{running_of}
use Rattle.evaluator_frames.specs.declared.frame.Control.{Control}
use Rattle.evaluator_frames.specs.declared.frame.Control.TheVariants as controls
use Rattle.evaluator_frames.specs.Frames.{Goes, frame_line, machine_does}
use Rattle.evaluator_frames.specs.Weight.{frames_weight}
use Rattle.evaluator.specs.declared.machine.Machine.{Machine}
use Rattle.evaluator.specs.Machines.{env_of, here_in, means, site_at}
use Rattle.evaluator.proofs.Calls.{goes_stop}
use Rattle.evaluator.proofs.Turns.{leads_after}
use Rattle.evaluator.proofs.TurnParts.{lightens_then}
use Rattle.evaluator.proofs.turning.hand_to.Goals as goal

pub returns-in-Ok : goal.returns-in-Ok
returns-in-Ok c =
    let m = c.args.m.now in
    let first : Machine = record m { state = c.hand_down.new.state; frames = c.hand_down.new.frames } in
    record {
      leads = leads_after c.args.e.now (λ (env : Env). machine_does env m.left (here_in m) (controls.Signal c.args.signal) (m.frames.items ++ c.args.frame ∷ []) (world_of m.state)) (λ (env : Env). means env first c.in-Ok.control) c.led.result c.led.new.m
          (λ more knows. c.in-Ok.ensures.goes (with_answers more (env_of c.args.e.now)) m.left (running_of m.running.items))
          c.led.ensures.leads;
      falls = lightens_then m first c.led.new.m c.in-Ok.control (frames_weight (m.frames.items ++ c.args.frame ∷ [])) c.led.result c.in-Ok.ensures.lighter c.led.ensures.falls;
    }

pub returns-in-Err : goal.returns-in-Err
returns-in-Err c = record {
  leads =
      let m = c.args.m.now in
      let here = here_in m in
      let signal = controls.Signal c.args.signal in
      let all = m.frames.items ++ c.args.frame ∷ [] in
      let line : c.frame_line-line.result ≡ frame_line m.at.line c.args.frame = c.frame_line-line.ensures in
      let before = λ (env : Env). machine_does env m.left here signal all (world_of m.state) in
      let after = λ (env : Env) (control : Control). machine_does env m.left here control c.hand_down.new.frames.items (world_of c.hand_down.new.state) in
      goes_stop c.args.e.now before m.at.path c.frame_line-line.result c.in-Err.halt c.stop.result _ after c.stop.ensures (λ more knows.
      let env = with_answers more (env_of c.args.e.now) in
      subst (λ (i : ℕ). Goes (site_at m.at.path i) (before env) (Err c.in-Err.halt) (after env)) (sym line) (c.in-Err.ensures.goes env m.left (running_of m.running.items)));
  falls = tt;
}
