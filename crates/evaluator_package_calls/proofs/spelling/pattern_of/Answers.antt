use Rattle.std.proofs.Common.{ap}
use Rattle.std.specs.Prelude.{if◌then◌else◌}
use Rattle.values_semantics.specs.Outcome.{good, bad}
use Rattle.evaluator_package_calls.proofs.AsciiTexts.{no_pattern}
use Rattle.evaluator_package_calls.proofs.spelling.pattern_of.Goals as goal

pub returns-in_default : goal.returns-in_default
returns-in_default c = ap (λ b. if b then good c.args.bytes.now else bad 21) (no_pattern c.args.bytes.now c.in_default.ensures.cases.0)
