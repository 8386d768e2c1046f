use Rattle.std.proofs.Common.{◌∙◌, refl, sym}
use Rattle.syntax_expressions.specs.View.{rest_of}
use Rattle.syntax_expressions.proofs.Ends.{ended, no_comparison}
use Rattle.syntax_expressions.proofs.front.take_comparison.Goals as goal

pub returns-then-not-continues : goal.returns-then-not-continues
returns-then-not-continues c = (no_comparison (rest_of c.args.t.now) (ended (rest_of c.args.t.now) (sym c.continues.ensures ∙ c.if-not-continues.true)), refl)
