use Rattle.pattern.proofs.Answer.{found_by_patterns}
use Rattle.pattern.proofs.globs.glob_is_union_of_patterns.Goals as goal

pub returns : goal.returns
returns c = found_by_patterns
