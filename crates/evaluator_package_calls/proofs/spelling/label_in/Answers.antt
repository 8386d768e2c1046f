use Rattle.std.proofs.Common.{ap}
use Rattle.values_semantics.specs.Outcome.{then_checked, or_bad, good}
use Rattle.labels.specs.Labels.{label_text}
use Rattle.evaluator_package_calls.proofs.AsciiTexts.{no_label}
use Rattle.evaluator_package_calls.proofs.spelling.label_in.Goals as goal

pub returns-in_default : goal.returns-in_default
returns-in_default c = ap (λ o. then_checked (or_bad 15 o) (λ t. good (label_text t))) (no_label c.args.bytes.now c.args.package_name.now c.in_default.ensures.cases.0)
