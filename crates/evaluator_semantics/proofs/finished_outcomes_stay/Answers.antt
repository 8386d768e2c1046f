use Rattle.evaluator_semantics.proofs.MoreAnswers.{answer_stays}
use Rattle.evaluator_semantics.proofs.MoreStatements.{finished_stays}
use Rattle.evaluator_semantics.proofs.finished_outcomes_stay.Goals as goal

pub returns-clause-stays : goal.returns-clause-stays
returns-clause-stays c = finished_stays

pub returns-clause-more : goal.returns-clause-more
returns-clause-more c = answer_stays
