use Rattle.evaluator_semantics.proofs.Rising.{targets_rise}
use Rattle.evaluator_semantics.proofs.targets_rise.Goals as goal

pub returns : goal.returns
returns c = targets_rise
