use Rattle.std.proofs.Common.{refl, sym, subst, Err}
use Rattle.std.specs.Prelude.{zip}
use Rattle.values_semantics.specs.declared.val.Val.{Val}
use Rattle.values_semantics.specs.declared.builtin.Builtin.{Builtin}
use Rattle.evaluator_semantics.specs.World.{Runs}
use Rattle.evaluator_state.specs.View.{world_of}
use Rattle.evaluator_package_calls.specs.Within.{within}
use Rattle.evaluator_package_calls.specs.View.{EndsAs}
use Rattle.evaluator_package_calls.proofs.Within.{within_rule, fails_too}
use Rattle.evaluator_package_calls.proofs.rules.in_package.Goals as goal

pub returns-in-Glob-clause-says : goal.returns-in-Glob-clause-says
returns-in-Glob-clause-says c = λ here.
    let w = world_of c.args.state.now in
    let u = record w { store = (world_of (record c.args.state.now { heap = c.glob_call.new.heap })).store } in
    let ns = zip c.args.names.now c.args.values.now in
    subst (λ (f : Builtin). EndsAs here.site (within c.args.known.now.name c.args.known.now.answers f c.args.xs.now ns here w) c.glob_call.result u) (sym c.in-Glob.is)
    (c.glob_call.ensures.says here w refl)

pub returns-in-Err-rule : goal.returns-in-Err-rule
returns-in-Err-rule c = record {
  says = λ here.
      let w = world_of c.args.state.now in
      let same = within_rule c.args.known.now.name c.args.known.now.answers c.args.f c.args.xs.now (zip c.args.names.now c.args.values.now) here c.in_default.not-PackageName c.in_default.not-Glob in
      subst (λ (m : Runs Val). EndsAs here.site (m w) (Err c.in-Err-rule.halt) (world_of c.rule.new.state)) (sym same) (fails_too here.site _ c.in-Err-rule.halt (world_of c.rule.new.state) (c.in-Err-rule.ensures.says here));
  waits = tt;
  steps = tt;
}
