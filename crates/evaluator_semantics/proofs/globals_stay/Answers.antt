use Rattle.evaluator_semantics.proofs.FileSteps.{globals_stay}
use Rattle.evaluator_semantics.proofs.globals_stay.Goals as goal

pub returns : goal.returns
returns c = globals_stay
