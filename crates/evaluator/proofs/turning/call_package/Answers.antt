use Rattle.std.proofs.Common.{◌≡◌, ℕ, List, Vec, Global, Ok, Err, refl, sym, ap, subst, ◌∙◌}
use Rattle.base_types.specs.declared.text.Text.{Text}
use Rattle.evaluator_state.specs.declared.state.State.{State}
use Rattle.evaluator_package_calls.specs.declared.kinds.CallResult.{CallResult}
use Rattle.evaluator_package_calls.specs.View.{IsOf, EndsAs, IfWaits}
use Rattle.std.specs.Arc.{arc_value}
use Rattle.values_semantics.specs.declared.val.Val.{Val}
use Rattle.evaluator_semantics.specs.World.{World, Ends, then_runs, pure}
use Rattle.evaluator_semantics.specs.Arguments.{plain_part, named_part}
use Rattle.evaluator_semantics.specs.Packages.{package_call}
use Rattle.evaluator_semantics.specs.Laws.{with_answers}
use Rattle.evaluator_semantics.proofs.MoreAnswers.{package_call_below}
use Rattle.evaluator_state.specs.View.{world_of}
use Rattle.evaluator_frames.specs.declared.frame.Control.TheVariants as controls
use Rattle.evaluator_frames.specs.Frames.{a_value, on, stack_does}
use Rattle.evaluator.specs.declared.machine.Environment.{Environment}
use Rattle.evaluator.specs.Machines.{env_of, here_in, means}
use Rattle.evaluator.proofs.Calls.{goes_stop, more_ended, package_stops}
use Rattle.evaluator.proofs.turning.call_package.Goals as goal

pub returns-in-Ok-Value-clause-leads : goal.returns-in-Ok-Value-clause-leads
returns-in-Ok-Value-clause-leads c = λ more knows.
    let m = c.args.m.now in
    let e = env_of c.args.e.now in
    let here = here_in m in
    let h = on e m.left here c.args.line in
    let w = world_of m.state in
    let u : World = world_of (record m.state { heap = c.package_call.new.state.heap; blocks = c.package_call.new.state.blocks; files = c.package_call.new.state.files; targets = c.package_call.new.state.targets }) in
    let names = (arc_value c.args.names).items in
    let xs = plain_part c.args.xs.items names in
    let ns = named_part c.args.xs.items names in
    let same_xs : c.as_slice.result.now ≡ c.args.xs.items = c.as_slice.ensures.value in
    let same_names : c.as_slice-2.result.now ≡ names = c.as_slice-2.ensures.value ∙ ap (λ (v : Vec Text Global). v.items) c.deref.ensures in
    let call = λ (l : List Val) (k : List (List ℕ)). package_call e c.args.f (plain_part l k) (named_part l k) h w in
    let calls : call c.args.xs.items names ≡ call c.as_slice.result.now c.as_slice-2.result.now = sym (ap (λ (l : List Val). call l c.as_slice-2.result.now) same_xs ∙ ap (λ (k : List (List ℕ)). call c.args.xs.items k) same_names) in
    let is : IsOf c.given.result.now.package e = subst (λ (g : Environment). IsOf g.package e) (sym c.given.ensures) (record { kind = refl; name = refl; globs = refl }) in
    let env = with_answers more e in
    let ends = more_ended (package_call e c.args.f xs ns h w) (package_call env c.args.f xs ns h w) _ _ (package_call_below e more knows c.args.f xs ns h w) (calls ∙ subst (λ (k : CallResult). EndsAs h.site (call c.as_slice.result.now c.as_slice-2.result.now) (Ok k) u) c.in-Ok-Value.field-0-is (c.in-Ok-Value.ensures.says e h is)) in
    ap (λ (o : Ends Val). then_runs (then_runs o (λ v. pure (a_value v))) (stack_does env m.left here m.frames.items)) ends

pub returns-in-Err-clause-leads : goal.returns-in-Err-clause-leads
returns-in-Err-clause-leads c =
    let m = c.args.m.now in
    let e = env_of c.args.e.now in
    let here = here_in m in
    let h = on e m.left here c.args.line in
    let w = world_of m.state in
    let u : World = world_of (record m.state { heap = c.package_call.new.state.heap; blocks = c.package_call.new.state.blocks; files = c.package_call.new.state.files; targets = c.package_call.new.state.targets }) in
    let names = (arc_value c.args.names).items in
    let xs = plain_part c.args.xs.items names in
    let ns = named_part c.args.xs.items names in
    let same_xs : c.as_slice.result.now ≡ c.args.xs.items = c.as_slice.ensures.value in
    let same_names : c.as_slice-2.result.now ≡ names = c.as_slice-2.ensures.value ∙ ap (λ (v : Vec Text Global). v.items) c.deref.ensures in
    let call = λ (l : List Val) (k : List (List ℕ)). package_call e c.args.f (plain_part l k) (named_part l k) h w in
    let calls : call c.args.xs.items names ≡ call c.as_slice.result.now c.as_slice-2.result.now = sym (ap (λ (l : List Val). call l c.as_slice-2.result.now) same_xs ∙ ap (λ (k : List (List ℕ)). call c.args.xs.items k) same_names) in
    let is : IsOf c.given.result.now.package e = subst (λ (g : Environment). IsOf g.package e) (sym c.given.ensures) (record { kind = refl; name = refl; globs = refl }) in
    goes_stop c.args.e.now (λ env. means env m (controls.Package c.args.line c.args.f c.args.xs c.args.names)) m.at.path c.args.line c.in-Err.halt c.stop.result _ (λ env control. means env m control) c.stop.ensures (λ more knows. let env = with_answers more e in
    package_stops (package_call e c.args.f xs ns h w) (package_call env c.args.f xs ns h w) c.in-Err.halt h.site u (λ v. pure (a_value v)) (stack_does env m.left here m.frames.items) _ (package_call_below e more knows c.args.f xs ns h w) (subst (λ (o : Ends Val). EndsAs h.site o (Err c.in-Err.halt) u) (sym calls) (c.in-Err.ensures.says e h is)))

pub returns-in-Ok-Need-clause-leads : goal.returns-in-Ok-Need-clause-leads
returns-in-Ok-Need-clause-leads c =
    let m = c.args.m.now in
    let e = env_of c.args.e.now in
    let here = here_in m in
    let h = on e m.left here c.args.line in
    let w = world_of m.state in
    let u : World = world_of (record m.state { heap = c.package_call.new.state.heap; blocks = c.package_call.new.state.blocks; files = c.package_call.new.state.files; targets = c.package_call.new.state.targets }) in
    let names = (arc_value c.args.names).items in
    let xs = plain_part c.args.xs.items names in
    let ns = named_part c.args.xs.items names in
    let same_xs : c.as_slice.result.now ≡ c.args.xs.items = c.as_slice.ensures.value in
    let same_names : c.as_slice-2.result.now ≡ names = c.as_slice-2.ensures.value ∙ ap (λ (v : Vec Text Global). v.items) c.deref.ensures in
    let call = λ (l : List Val) (k : List (List ℕ)). package_call e c.args.f (plain_part l k) (named_part l k) h w in
    let calls : call c.args.xs.items names ≡ call c.as_slice.result.now c.as_slice-2.result.now = sym (ap (λ (l : List Val). call l c.as_slice-2.result.now) same_xs ∙ ap (λ (k : List (List ℕ)). call c.args.xs.items k) same_names) in
    let is : IsOf c.given.result.now.package e = subst (λ (g : Environment). IsOf g.package e) (sym c.given.ensures) (record { kind = refl; name = refl; globs = refl }) in
    (ap (λ (o : Ends Val). then_runs (then_runs o (λ v. pure (a_value v))) (stack_does e m.left here m.frames.items)) (calls ∙ subst (λ (k : CallResult). EndsAs h.site (call c.as_slice.result.now c.as_slice-2.result.now) (Ok k) u) c.in-Ok-Need.field-0-is (c.in-Ok-Need.ensures.says e h is)), λ more knows. ap (λ (z : State). means (with_answers more e) (record m { state = z }) (controls.Package c.args.line c.args.f c.args.xs c.args.names)) (sym (subst (λ (k : CallResult). IfWaits (Ok k) (c.package_call.new.state ≡ m.state)) c.in-Ok-Need.field-0-is c.in-Ok-Need.ensures.waits)))
