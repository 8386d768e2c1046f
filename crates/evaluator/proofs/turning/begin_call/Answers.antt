use Rattle.std.proofs.Common.{◌≡◌, ℕ, List, Vec, Global, Err, sym, subst, ap, ◌∙◌, arith}
use Rattle.std.specs.Arc.{arc_value}
use Rattle.base_types.specs.declared.text.Text.{Text}
use Rattle.values_semantics.specs.declared.val.Val.{Val}
use Rattle.values_semantics.specs.Heap.{at}
use Rattle.evaluator_semantics.specs.World.{Ends}
use Rattle.evaluator_semantics.specs.Arguments.{plain_part, named_part}
use Rattle.evaluator_semantics.specs.Expressions.{call_object}
use Rattle.evaluator_semantics.specs.Environment.{Env}
use Rattle.evaluator_semantics.specs.Calls.{call}
use Rattle.evaluator_semantics.specs.Laws.{with_answers}
use Rattle.evaluator_state.specs.declared.state.Position.{Position}
use Rattle.evaluator_state.specs.View.{world_of}
use Rattle.evaluator_frames.specs.declared.frame.Control.{Control}
use Rattle.evaluator_frames.specs.declared.frame.Control.TheVariants as controls
use Rattle.evaluator_frames.specs.Frames.{Sig, Goes, on, valued, above}
use Rattle.evaluator.specs.Machines.{env_of, means, here_in, Stops}
use Rattle.evaluator.proofs.Calls.{goes_stop}
use Rattle.evaluator.proofs.Turns.{leads_after}
use Rattle.evaluator.proofs.TurnParts.{lightens_then, fell}
use Rattle.evaluator.proofs.turning.begin_call.Goals as goal

pub returns-in-Ok : goal.returns-in-Ok
returns-in-Ok c = record {
  leads =
      let m = c.args.m.now in
      let before = λ (env : Env). means env m (controls.Enter c.args.line c.args.place c.args.xs c.args.names) in
      let next = λ (env : Env). means env c.enter.new.m c.in-Ok.control in
      leads_after c.args.e.now before next c.led.result c.led.new.m
      (λ more knows.
      let env = with_answers more (env_of c.args.e.now) in
      let here = here_in m in
      let names = (arc_value c.args.names).items in
      let calls = λ (xs : List Val) (names : List (List ℕ)). above env m.left here (valued (λ w. call_object (call env m.left) (at c.args.place w.store) (plain_part xs names) (named_part xs names) (on env m.left here c.args.line) w)) m.frames.items (world_of m.state) in
      let same_xs : c.as_slice.result.now ≡ c.args.xs.items = c.as_slice.ensures.value in
      let same_names : c.as_slice-2.result.now ≡ names = c.as_slice-2.ensures.value ∙ ap (λ (v : Vec Text Global). v.items) c.deref.ensures in
      sym (ap (λ (xs : List Val). calls xs c.as_slice-2.result.now) same_xs ∙ ap (λ (l : List (List ℕ)). calls c.args.xs.items l) same_names) ∙ c.in-Ok.ensures.goes more knows)
      c.led.ensures.leads;
  falls = lightens_then c.args.m.now c.enter.new.m c.led.new.m c.in-Ok.control _ c.led.result (fell _ _ _ _ c.in-Ok.ensures.light.0 (omega (arith, c.in-Ok.ensures.light.1))) c.led.ensures.falls;
}

pub returns : goal.returns
returns c = record {
  leads =
      let m = c.args.m.now in
      let stands : c.enter.new.m.at ≡ m.at = c.in-Err.ensures.stands in
      let before = λ (env : Env). means env m (controls.Enter c.args.line c.args.place c.args.xs c.args.names) in
      let after = λ (env : Env) (next : Control). means env c.enter.new.m next in
      goes_stop c.args.e.now before m.at.path c.args.line c.in-Err.halt c.stop.result _ after
      (subst (λ (at : Position). Stops at.path c.args.line c.in-Err.halt c.stop.result) stands c.stop.ensures)
      (λ more knows.
      let env = with_answers more (env_of c.args.e.now) in
      let here = here_in m in
      let names = (arc_value c.args.names).items in
      let calls = λ (xs : List Val) (names : List (List ℕ)). above env m.left here (valued (λ w. call_object (call env m.left) (at c.args.place w.store) (plain_part xs names) (named_part xs names) (on env m.left here c.args.line) w)) m.frames.items (world_of m.state) in
      let same_xs : c.as_slice.result.now ≡ c.args.xs.items = c.as_slice.ensures.value in
      let same_names : c.as_slice-2.result.now ≡ names = c.as_slice-2.ensures.value ∙ ap (λ (v : Vec Text Global). v.items) c.deref.ensures in
      subst (λ (o : Ends Sig). Goes (on env m.left here c.args.line).site o (Err c.in-Err.halt) (after env))
      (ap (λ (xs : List Val). calls xs c.as_slice-2.result.now) same_xs ∙ ap (λ (l : List (List ℕ)). calls c.args.xs.items l) same_names)
      (c.in-Err.ensures.goes more knows));
  falls = tt;
}
