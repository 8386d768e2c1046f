use Rattle.std.proofs.Common.{◌≡◌, ℕ, Err, sym, subst}
use Rattle.evaluator_semantics.specs.Environment.{Env}
use Rattle.evaluator_semantics.specs.Laws.{with_answers}
use Rattle.evaluator_state.specs.declared.state.Position.{Position}
use Rattle.evaluator_frames.specs.declared.frame.Control.{Control}
use Rattle.evaluator_frames.specs.Frames.{Goes, control_line}
use Rattle.evaluator.specs.Machines.{env_of, means, site_at, Stops}
use Rattle.evaluator.proofs.Calls.{goes_stop}
use Rattle.evaluator.proofs.turning.act_on.Goals as goal

pub returns-in-Err : goal.returns-in-Err
returns-in-Err c = record {
  leads =
      let m = c.args.m.now in
      let k = c.args.control in
      let i = c.control_line-line.result in
      let line : i ≡ control_line m.at.line k = c.control_line-line.ensures in
      let stands : c.act.new.m.at ≡ m.at = c.in-Err.ensures.stands in
      let before = λ (env : Env). means env m k in
      let after = λ (env : Env) (next : Control). means env c.act.new.m next in
      goes_stop c.args.e.now before m.at.path i c.in-Err.halt c.stop.result _ after
      (subst (λ (at : Position). Stops at.path i c.in-Err.halt c.stop.result) stands c.stop.ensures)
      (λ more knows. let env = with_answers more (env_of c.args.e.now) in
      subst (λ (j : ℕ). Goes (site_at m.at.path j) (before env) (Err c.in-Err.halt) (after env)) (sym line) (c.in-Err.ensures.goes env));
  falls = λ acting. tt;
}
