use Rattle.std.proofs.Common.{Ok, refl, subst}
use Rattle.std.specs.Arc.{arc_value}
use Rattle.syntax_tree.specs.Statements.{file_of}
use Rattle.evaluator.specs.Outcomes.{Evaluates}
use Rattle.keys.specs.Turns.{values}
use Rattle.functions.specs.Goes.{IsMade, LeadsTo}
use Rattle.functions.specs.Sources.{env_of, after_modules}
use Rattle.functions.proofs.SourceSteps.{weaken}
use Rattle.functions.proofs.evaluating.evaluate_file.Goals as goal

pub answer_globs-requires : goal.answer_globs-requires
answer_globs-requires c = (
  env_of c.args.source.now (file_of (arc_value c.args.file)) c.args.loads.items,
  refl,
  subst (λ e. Evaluates e (Ok c.in_ok-first.first)) c.in_ok-environment.ensures (rw c.in_ok-first.was at c.run.ensures),
)

pub returns : goal.returns
returns c =
    let source = c.args.source.now in
    let file = file_of (arc_value c.args.file) in
    let loads = c.args.loads.items in
    let answers = values c.args.answers.now in
    weaken (LeadsTo source.package_name c.in_ok-first.first answers) (IsMade (after_modules source file (Ok loads)) answers) c.answer_globs.result
    (λ reply h. h (env_of source file loads) refl (subst (λ e. Evaluates e (Ok c.in_ok-first.first)) c.in_ok-environment.ensures (rw c.in_ok-first.was at c.run.ensures)))
    c.answer_globs.ensures
