use Rattle.evaluator_semantics.proofs.FileSteps.{steps_are_spent}
use Rattle.evaluator_semantics.proofs.steps_are_spent.Goals as goal

pub returns : goal.returns
returns c = steps_are_spent
