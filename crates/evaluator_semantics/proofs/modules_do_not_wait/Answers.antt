use Rattle.evaluator_semantics.proofs.MoreStatements.{modules_finish}
use Rattle.evaluator_semantics.proofs.modules_do_not_wait.Goals as goal

pub returns : goal.returns
returns c = modules_finish
