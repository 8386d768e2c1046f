use Rattle.std.proofs.Common.{ap, sym, ◌∙◌, subst}
use Rattle.std.specs.Prelude.{zip}
use Rattle.evaluator_state.specs.View.{world_of}
use Rattle.evaluator_package_calls.specs.View.{EndsAs}
use Rattle.evaluator_package_calls.proofs.Within.{in_module, in_build}
use Rattle.evaluator_package_calls.proofs.rules.package_call.Goals as goal

pub returns-in-Bzl-clause-says : goal.returns-in-Bzl-clause-says
returns-in-Bzl-clause-says c = λ env here of. in_module env c.args.f _ _ here (world_of c.args.state.now) (of.kind ∙ c.in-Bzl.is)

pub returns-in-Build-clause-says : goal.returns-in-Build-clause-says
returns-in-Build-clause-says c = λ env here of.
    let known = c.args.known.now in
    subst (λ o. EndsAs here.site o c.in_package.result (world_of c.in_package.new.state)) (sym (in_build env known.name known.answers c.args.f _ _ _ _ here (world_of c.args.state.now) (of.kind ∙ c.in-Build.is) of.name of.globs c.plain_part-plain.ensures (ap (λ l. zip c.args.names.now l) c.named_values-values.ensures))) (c.in_package.ensures.says here)
