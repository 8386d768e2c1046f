use Rattle.evaluator_semantics.proofs.MoreStatements.{needs_asked}
use Rattle.evaluator_semantics.proofs.needs_are_asked.Goals as goal

pub returns : goal.returns
returns c = needs_asked
