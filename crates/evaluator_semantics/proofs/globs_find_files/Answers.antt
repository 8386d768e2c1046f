use Rattle.evaluator_semantics.proofs.GlobResults.{globs_find}
use Rattle.evaluator_semantics.proofs.globs_find_files.Goals as goal

pub returns : goal.returns
returns c = globs_find
