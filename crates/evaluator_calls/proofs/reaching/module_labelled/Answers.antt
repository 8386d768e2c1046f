use Rattle.std.proofs.Common.{List, ap, ◌∙◌}
use Rattle.values_modules.specs.Values.{Body}
use Rattle.evaluator_semantics.specs.Modules.{body_at, all_bodies}
use Rattle.evaluator_calls.proofs.ModuleTables.{once_at}
use Rattle.evaluator_calls.proofs.reaching.module_labelled.Goals as goal

pub returns-in-Some : goal.returns-in-Some
returns-in-Some c =
    let x = c.args.label.now in
    c.with_label.ensures
    ∙ ap (λ (l : List Body). body_at x l) (c.requires c.in-Some.reached c.in-Some.is)
    ∙ once_at x (all_bodies c.args.loads.now)
