use Rattle.loader.proofs.SomeAnswers.{some_answer, some_answer_each}
use Rattle.loader.proofs.laws.lines_have_answers.Goals as goal

pub returns-clause-line : goal.returns-clause-line
returns-clause-line c = some_answer

pub returns-clause-lines : goal.returns-clause-lines
returns-clause-lines c = some_answer_each
