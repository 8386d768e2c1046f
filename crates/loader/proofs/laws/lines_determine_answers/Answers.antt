use Rattle.loader.proofs.OneAnswers.{one_answer, one_answer_each}
use Rattle.loader.proofs.laws.lines_determine_answers.Goals as goal

pub returns-clause-line : goal.returns-clause-line
returns-clause-line c = one_answer

pub returns-clause-lines : goal.returns-clause-lines
returns-clause-lines c = one_answer_each
