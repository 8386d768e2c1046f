use Rattle.pattern.proofs.Questions.{has_its_pattern}
use Rattle.pattern.proofs.globs.question_has_its_pattern.Goals as goal

pub returns : goal.returns
returns c = has_its_pattern
